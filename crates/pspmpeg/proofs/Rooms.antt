-- The rooms are enough: the frames that a capture delivers on a session have no more bytes than the capture, by the byte account; and an
-- entry delivers no more frames than a call can.
use Prim.Native.Nat.{ℕ, zero, suc, ◌+◌, ◌*◌, ◌≤◌}
use mathlib.Core.Path.{◌≡◌, refl, ap, subst}
use mathlib.Core.Bool.{Bool, true, false, cond}
use mathlib.Core.List.{List, []}
use native.Mathlib.Omega.{arith}
use lib.Dec.{eqb}
use lib.ListN.{length, replicate, length-append}
use Rattle.refusal.specs.Refusal.{first}
use Rattle.octets.specs.Bytes.{be32_at}
use Rattle.octets.specs.Count.{sum_to, up_to}
use Rattle.octets.specs.Stretch.{part, joined}
use Rattle.octets.proofs.Counts.{sum_below}
use Rattle.octets.proofs.Stretches.{part-short, length_rest, length-joined-none, joined-append, length_cut}
use Rattle.packet.specs.Header.{Packet, lead, id_length, sub, segment_count}
use Rattle.packet.specs.Segments.{length_at, body_at}
use Rattle.packet.specs.Psp.{wanted, psp_refusals}
use Rattle.packet.specs.Dmpt.{carried, dmpt_refusals}
use Rattle.packet.proofs.Passing.{psp_passed}
use Rattle.table.specs.declared.Kind.TheVariants as kind
use Rattle.table.specs.declared.Terms.{Terms}
use Rattle.table.specs.Rows.{is_dmpt, terms_at}
use Rattle.join.specs.Slices.{most_frames, Slices}
use Rattle.card.specs.Hear.{width_in}
use Rattle.card.specs.Receive.{holding_size, row_of, flow_of, held_by, packet_refusals, received}
use Rattle.card.specs.History.{Card, Arrival, opens, closes, hands, lent_with, frames_of, answer}
use Rattle.card.proofs.Accepted as call
use Rattle.card.proofs.Limits.{body_bytes, accepted_bounded, held-length}
use Rattle.capture.specs.File.{Entry, head_length, entry_length, longest_file, open_psp, open_dmpt, closing, entry_count, body_length}
use Rattle.capture.specs.File.{body_start}
use Rattle.capture.specs.File.{file_refusal, nth_entry}
use Rattle.capture.proofs.Checking.{is_sound}
use Rattle.replay.specs.Run.{Running, asks, packet_of, call_of, answer_to, run_one, begin, standing, answer_at}
use Rattle.replay.proofs.Standing.{frames-short}
use Rattle.replay.proofs.Histories.{start_card, call_at, run-card}
use Rattle.promises.specs.Account.{packet_body, taken_by}
use Rattle.promises.proofs.Good.{Good, good-empty, good_all}
use Rattle.promises.proofs.Measures.{by_length}
use Rattle.promises.proofs.Holdings.{in_table, kept_in_all, table_keeps, empty_keeps}
use Rattle.promises.proofs.Fates.{heard_tells}
use Rattle.refusal.proofs.Laws.{when_accepted, when_refused}
use Rattle.promises.proofs.OneCall.{call_balances}
use Rattle.outputs.specs.Stream.{is_for, frames_at, delivered_before}

-- a packet brings no more bytes than it has
few_by : (d : Bool) (width : ℕ) (sub : List ℕ) → first (cond d (dmpt_refusals sub) (psp_refusals width sub)) ≡ 0 →
    cond d (carried sub) (sum_to (length_at width sub) (segment_count sub)) ≤ length sub
unfolding wanted body_at
few_by true width sub z = omega arith
few_by false width sub z = omega (arith, (psp_passed width sub z).segments.fills)

body-few : (terms : Terms) (sub : List ℕ) → first (packet_refusals terms sub) ≡ 0 → body_bytes terms.kind sub ≤ length sub
body-few terms sub z = few_by (is_dmpt terms.kind) (width_in terms.kind) sub z

module _ (c : Card) (x : Arrival) where
  abbrev packet : Packet
  packet = x.packet

  abbrev slices : Slices
  slices = lent_with c x

  abbrev r : ℕ
  r = row_of c.table packet

  abbrev behind : List ℕ
  behind = sub packet

  packet-few : (received c.table packet slices).answer.code ≡ 0 →
      length (packet_body (terms_at c.table r).kind behind) ≤ length packet.bytes
  packet-few z =
      let a = call.accepted c.table packet slices z in
      let tells = heard_tells length by_length (terms_at c.table r) (flow_of c.table r behind)
      (held_by c.table r behind slices) behind in
      omega (
        arith,
        tells,
        (accepted_bounded c.table packet slices a).all,
        held-length c.table packet slices a,
        body-few (terms_at c.table r) behind a.passed,
        length_rest packet.bytes (lead packet + id_length),
      )

  hands-few : (n : ℕ) → (received c.table packet slices).answer.code ≡ n → length (taken_by c (hands x)) ≤ length packet.bytes
  unfolding answer
  hands-few zero e =
      let code = (received c.table packet slices).answer.code in
      omega (arith, ap length (when_accepted code e (packet_body (terms_at c.table r).kind behind) []), packet-few e)
  hands-few (suc n) e =
      let code = (received c.table packet slices).answer.code in
      omega (arith, ap length (when_refused code (λ z. omega arith) (packet_body (terms_at c.table r).kind behind) []))

-- .. and so does an entry
abbrev lent : Running → Entry → Arrival
lent r e = record { packet = packet_of e; output = r.output; lengths = r.lengths }

entry_few : (r : Running) (e : Entry) → length (taken_by r.card (call_of r e)) ≤ length e.body
entry_few r e = by (eqb e.kind open_psp) (eqb e.kind open_dmpt) (eqb e.kind closing)
  where
    by : (a b d : Bool) →
        length (taken_by r.card
        (cond a (opens (asks kind.Psp e))
        (cond b (opens (asks kind.Dmpt e)) (cond d (closes (be32_at e.body 0)) (hands (lent r e))))))
        ≤ length e.body
    by true b d = omega arith
    by false true d = omega arith
    by false false true = omega arith
    by false false false = hands-few r.card (lent r e) _ refl

-- What has been delivered and what is still held, together, has come in the bodies before.
standing-good : (file : List ℕ) (k : ℕ) → Good (standing file k).card
standing-good file k = subst Good (run-card file k) (good_all start_card (up_to (call_at file) k) (good-empty (replicate holding_size 0)))

entry_balances : (file : List ℕ) (k : ℕ) →
    length (joined (frames_of (answer_at file k))) + kept_in_all in_table (standing file (suc k)).card
    ≤ length (nth_entry file k).body + kept_in_all in_table (standing file k).card
unfolding answer_at standing run_one
entry_balances file k =
    let c = (standing file k).card in
    let x = call_of (standing file k) (nth_entry file k) in
    omega (arith, call_balances table_keeps c (standing-good file k) x, entry_few (standing file k) (nth_entry file k))

chosen-few : (b : Bool) (frames : List (List ℕ)) →
    (length (cond b frames []) ≤ length frames) × (length (joined (cond b frames [])) ≤ length (joined frames))
chosen-few true frames = (omega arith, omega arith)
chosen-few false frames = (omega arith, omega (arith, length-joined-none))

at_few : (session : ℕ) (file : List ℕ) (k : ℕ) →
    (length (frames_at session file k) ≤ length (frames_of (answer_at file k)))
    × (length (joined (frames_at session file k)) ≤ length (joined (frames_of (answer_at file k))))
unfolding frames_at
at_few session file k = chosen-few (is_for session (standing file k).card.table (nth_entry file k)) (frames_of (answer_at file k))

body-short : (file : List ℕ) (k : ℕ) → length (nth_entry file k).body ≤ body_length head_length entry_length file k
unfolding nth_entry
body-short file k = part-short file (body_start head_length entry_length file k) (body_length head_length entry_length file k)

told-before : (session : ℕ) (file : List ℕ) (k : ℕ) →
    length (joined (delivered_before session file k)) + kept_in_all in_table (standing file k).card
    ≤ sum_to (body_length head_length entry_length file) k
unfolding delivered_before standing begin sum_to
told-before session file zero = omega (arith, length-joined-none, empty_keeps table_keeps (replicate holding_size 0))
told-before session file (suc k) =
    omega (
      arith,
      told-before session file k,
      entry_balances file k,
      (at_few session file k).1,
      body-short file k,
      ap length (joined-append (delivered_before session file k) (frames_at session file k)),
      length-append (joined (delivered_before session file k)) (joined (frames_at session file k)),
    )

pub few_bytes : (session : ℕ) (file : List ℕ) (k : ℕ) → file_refusal file ≡ 0 → k ≤ entry_count head_length file →
    length (joined (delivered_before session file k)) ≤ longest_file
unfolding body_start
few_bytes session file k z within =
    let sound = is_sound file z in
    omega (
      arith,
      told-before session file k,
      sum_below (body_length head_length entry_length file) k (entry_count head_length file) within,
      sound.ends,
      sound.short,
    )

-- the frames, by number
entry_frames : (file : List ℕ) (k : ℕ) → length (frames_of (answer_at file k)) ≤ most_frames
unfolding answer_at
entry_frames file k =
    let a = answer_to (standing file k) (nth_entry file k) in
    omega (
      arith,
      length_cut (part a.lengths 0 a.frames) a.output,
      part-short a.lengths 0 a.frames,
      (frames-short (standing file k) (nth_entry file k)).0,
    )

pub few-frames : (session : ℕ) (file : List ℕ) (k : ℕ) → length (delivered_before session file k) ≤ most_frames * k
unfolding delivered_before
few-frames session file zero = omega arith
few-frames session file (suc k) =
    omega (
      arith,
      few-frames session file k,
      entry_frames file k,
      (at_few session file k).0,
      length-append (delivered_before session file k) (frames_at session file k),
    )
