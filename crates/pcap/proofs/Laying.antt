-- Entries laid one after another into the slice of a capture: none, one, and some behind others; and the room that they need. The walks
-- that lay them carry the entries still to come: what is laid of these stands behind what they have laid.
use Prim.Native.Nat.{ℕ, ◌+◌, ◌-◌, ◌*◌, ◌<◌, ◌≤◌}
use mathlib.Core.Path.{◌≡◌, refl, sym, ap, ◌∙◌}
use mathlib.Core.Bool.{Bool, true, false}
use mathlib.Core.List.{List, [], ◌∷◌, ◌++◌, map, map-append, append-nil, append_assoc}
use native.Mathlib.Omega.{arith}
use lib.ListN.{length, take, drop, length-append}
use Rattle.octets.specs.Bytes.{byte_at, four}
use Rattle.octets.specs.Stretch.{part, rest, put, joined}
use Rattle.octets.proofs.Stretches.{joined_one, length-joined-none, length-joined-append, length-put, sliced_part}
use Rattle.octets.proofs.Stretches.{rest-none, rest_byte, rest_past}
use Rattle.capture.specs.declared.Writer.{Writer}
use Rattle.capture.specs.File.{head_length, entry_length, open_psp, Entry, opening, content_of, body_of}
use Rattle.capture.specs.Write.{added, bodies_from, FitsIn, laid}
use Rattle.capture.proofs.Writing.{laid_more}
use Rattle.pcap.specs.File.{is_little, whole, after, bytes_at, records_from, first_place, records}
use Rattle.pcap.specs.Judge.{skip_of, entry_of, Judged, judged}
use Rattle.pcap.specs.Import.{entries_of}
use Rattle.pcap.specs.Inside.Importing.{RoomFor, LaysOn}
use Rattle.pcap.proofs.Walk.{records_step, records_end}
use Rattle.pcap.proofs.Judging.{judged-inside, cause_is, taken_as}
use Rattle.pcap.proofs.Counting.{entries_none, entries-cons, entry_taken, entry_skipped}

pub bodies_both : (a b : List Entry) →
    length (joined (map body_of (a ++ b))) ≡ length (joined (map body_of a)) + length (joined (map body_of b))
bodies_both a b =
    ap (λ (l : List (List ℕ)). length (joined l)) (map-append body_of a b) ∙ length-joined-append (map body_of a) (map body_of b)

-- Room.
pub room_fits : {e : Entry} {count : ℕ} {file : List ℕ} {w : Writer} → RoomFor (e ∷ []) count file w → FitsIn file count w e.body
room_fits {e} r =
    let long = ap length (joined_one e.body) in
    record {
      entry_left = omega (arith, r.entries-left);
      body-inside = omega (arith, r.bodies-inside, long);
      body-short = omega (arith, r.bodies-short, long);
    }

module _ (a b : List Entry) {count : ℕ} {file : List ℕ} {w : Writer} (r : RoomFor (a ++ b) count file w) where
  pub room_front : RoomFor a count file w
  room_front =
      let long = bodies_both a b in
      record {
        few = r.few;
        entries-left = omega (arith, r.entries-left, length-append a b);
        bodies-inside = omega (arith, r.bodies-inside, long);
        bodies-short = omega (arith, r.bodies-short, long);
      }

  pub room_behind : {file' : List ℕ} {w' : Writer} → LaysOn a count file w file' w' → RoomFor b count file' w'
  room_behind l =
      let long = bodies_both a b in
      record {
        few = r.few;
        entries-left = omega (arith, r.entries-left, length-append a b, l.entries_more);
        bodies-inside = omega (arith, r.bodies-inside, long, l.bytes_more, l.as_long);
        bodies-short = omega (arith, r.bodies-short, long);
      }

-- Laid.
pub lays_none : (count : ℕ) (file : List ℕ) (w : Writer) → LaysOn [] count file w file w
lays_none count file w =
    record {
      entries_more = omega arith;
      bytes_more = omega (arith, length-joined-none);
      as_long = refl;
      laid_behind = λ es₀ file₀ l. rw (append-nil es₀) l;
    }

pub lays_one : (e : Entry) {count : ℕ} {file : List ℕ} {w : Writer} (file' : List ℕ) (w' : Writer) → FitsIn file count w e.body →
    file' ≡ laid file count w e → w' ≡ added w e.body → LaysOn (e ∷ []) count file w file' w'
lays_one e {count} {file} {w} file' w' f there next =
    let at = head_length + entry_length * w.entries in
    let long = ap length (joined_one e.body) in
    let first : length (put file at (content_of e)) ≡ length file =
    length-put file at (content_of e) (omega (arith, f.entry_left, f.body-inside)) in
    record {
      entries_more = omega (arith, ap (λ (x : Writer). x.entries) next);
      bytes_more = omega (arith, ap (λ (x : Writer). x.bytes) next, long);
      as_long =
          ap length there
          ∙ length-put (put file at (content_of e)) (bodies_from count + w.bytes) e.body (omega (arith, f.body-inside, first))
          ∙ first;
      laid_behind = λ es₀ file₀ l. rw next (laid_more l e file' f there);
    }

pub lays_both : {a b : List Entry} {count : ℕ} {file file' file'' : List ℕ} {w w' w'' : Writer} →
    LaysOn a count file w file' w' → LaysOn b count file' w' file'' w'' → LaysOn (a ++ b) count file w file'' w''
lays_both {a} {b} l l' =
    record {
      entries_more = omega (arith, l.entries_more, l'.entries_more, length-append a b);
      bytes_more = omega (arith, l.bytes_more, l'.bytes_more, bodies_both a b);
      as_long = l'.as_long ∙ l.as_long;
      laid_behind = λ es₀ file₀ h. rw (← append_assoc es₀ a b) (l'.laid_behind (es₀ ++ a) file₀ (l.laid_behind es₀ file₀ h));
    }

-- The walk that lays all: `left` are the entries still to come.
pub record Laying (all : List Entry) (count : ℕ) (file₀ : List ℕ) (w₀ : Writer) (left : List Entry) (file : List ℕ) (w : Writer) : Type 0
  where
    pub room : RoomFor left count file w
    pub as_long : length file ≡ length file₀
    pub onward : (file' : List ℕ) (w' : Writer) → LaysOn left count file w file' w' → LaysOn all count file₀ w₀ file' w'

pub laying_begin : {all : List Entry} {count : ℕ} {file : List ℕ} {w : Writer} →
    RoomFor all count file w → Laying all count file w all file w
laying_begin r = record { room = r; as_long = refl; onward = λ file' w' l. l }

module _ {all : List Entry} {count : ℕ} {file₀ : List ℕ} {w₀ : Writer} {left : List Entry} {file : List ℕ} {w : Writer}
    (h : Laying all count file₀ w₀ left file w) where
  module _ (a b : List Entry) (split : left ≡ a ++ b) where
    room_here : RoomFor (a ++ b) count file w
    room_here = rw split at h.room

    pub laying_room : RoomFor a count file w
    laying_room = room_front a b room_here

    pub laying_turn : {file' : List ℕ} {w' : Writer} → LaysOn a count file w file' w' → Laying all count file₀ w₀ b file' w'
    laying_turn l =
        record {
          room = room_behind a b room_here l;
          as_long = l.as_long ∙ h.as_long;
          onward = λ file'' w'' l'. h.onward file'' w'' (rw split (lays_both l l'));
        }

  pub laying_end : left ≡ [] → LaysOn all count file₀ w₀ file w
  laying_end none = h.onward file w (rw none (lays_none count file w))

-- An open: its body is the session's number in four bytes.
module _ (session : ℕ) {count : ℕ} {output : List ℕ} {w : Writer} (r : RoomFor (opening session ∷ []) count output w) (body : List ℕ)
    (body_is : body ≡ four session) where
  pub open_fits : FitsIn output count w body
  open_fits = rw body_is (room_fits r)

  pub open_lays : (output' : List ℕ) (w' : Writer) → w' ≡ added w body →
      output' ≡ laid output count w (record { kind = open_psp; body = body }) → LaysOn (opening session ∷ []) count output w output' w'
  open_lays output' w' next there =
      lays_one (opening session) output' w' (room_fits r)
      (there ∙ ap (λ (b : List ℕ). laid output count w (record { kind = open_psp; body = b })) body_is)
      (next ∙ ap (added w) body_is)

-- .. and the sessions still to come
pub opens-begin : (sessions : List ℕ) → map opening (rest sessions 0) ≡ map opening sessions
opens-begin sessions = ap (map opening) (rest-none sessions)

pub opens_split : (sessions : List ℕ) (k : ℕ) → k < length sessions →
    map opening (rest sessions k) ≡ (opening (byte_at sessions k) ∷ []) ++ map opening (rest sessions (k + 1))
opens_split sessions k h = ap (map opening) (rest_byte sessions k h)

pub opens_end : (sessions : List ℕ) (k : ℕ) → length sessions ≤ k → map opening (rest sessions k) ≡ []
opens_end sessions k h = ap (map opening) (rest_past sessions k h)

-- A record, as it is judged: skipped, or its data laid.
module _ (r : List ℕ) {count : ℕ} {output : List ℕ} {w : Writer} (h : RoomFor (entries_of (r ∷ [])) count output w) (j : Judged)
    (e : j ≡ judged r) where
  pub record_skipped : (j.cause ≡ 0 → ⊥) → LaysOn (entries_of (r ∷ [])) count output w output w
  record_skipped some = rw (entry_skipped r (λ z. some (cause_is r j e ∙ z))) (lays_none count output w)

  module _ (z : j.cause ≡ 0) where
    none : skip_of r ≡ 0
    none = sym (cause_is r j e) ∙ z

    its_entry : ◌≡◌ {A = Entry} (record { kind = j.kind; body = part r j.at j.length }) (entry_of r)
    unfolding entry_of
    its_entry = ap (λ (x : Judged). record { kind = x.kind; body = part r x.at x.length }) (taken_as r j e none)

    pub data_inside : j.at + j.length ≤ length r
    data_inside =
        let t = taken_as r j e none in
        omega (arith, judged-inside r none, ap (λ (x : Judged). x.at) t, ap (λ (x : Judged). x.length) t)

    module _ (body : List ℕ) (lent : body ≡ take (j.at + j.length - j.at) (drop j.at r)) where
      entry_is : ◌≡◌ {A = Entry} (record { kind = j.kind; body = body }) (entry_of r)
      entry_is =
          ap (λ (b : List ℕ). record { kind = j.kind; body = b })
          (lent ∙ sliced_part r j.at (j.at + j.length) j.length (omega arith))
          ∙ its_entry

      room_for_it : RoomFor (entry_of r ∷ []) count output w
      room_for_it = rw (entry_taken r none) at h

      pub data_fits : FitsIn output count w body
      data_fits = rw (ap (λ (x : Entry). x.body) entry_is) (room_fits room_for_it)

      pub data_lays : (output' : List ℕ) (w' : Writer) → w' ≡ added w body →
          output' ≡ laid output count w (record { kind = j.kind; body = body }) → LaysOn (entries_of (r ∷ [])) count output w output' w'
      data_lays output' w' next there =
          rw (entry_taken r none)
          (lays_one (entry_of r) output' w' (room_fits room_for_it) (there ∙ ap (laid output count w) entry_is)
          (next ∙ ap (λ (x : Entry). added w x.body) entry_is))

-- .. and the records still to come
module _ (file : List ℕ) (at : ℕ) (little : Bool) where
  pub records_begin : little ≡ is_little file → at ≡ first_place file →
      entries_of (records_from (length file) file at little) ≡ entries_of (records file)
  unfolding records
  records_begin order begins = rw (order, begins) refl

  pub records_split : whole file at little ≡ true → (packet : List ℕ) (at' : ℕ) → packet ≡ bytes_at file at little →
      at' ≡ after file at little →
      entries_of (records_from (length file) file at little)
      ≡ entries_of (packet ∷ []) ++ entries_of (records_from (length file) file at' little)
  records_split there packet at' e further =
      rw (further, e)
      (ap entries_of (records_step file at little there)
      ∙ entries-cons (bytes_at file at little) (records_from (length file) file (after file at little) little))

  pub records_over : whole file at little ≡ false → entries_of (records_from (length file) file at little) ≡ []
  records_over none = ap entries_of (records_end (length file) file at little none) ∙ entries_none
