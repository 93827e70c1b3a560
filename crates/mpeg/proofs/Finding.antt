-- Frames from a frame's start to the end of a packet (`found`). The code finds them in a loop; its invariant, `Finding`, is that what it
-- has counted so far, with what `found` gives on the rest, is what `found` gives on the whole. The definition looks first whether all bytes
-- are 0xFF and the code at the first byte; they agree, since no frame begins with 0xFF.
use Prim.Native.Nat.{ℕ, ◌+◌, ◌-◌, ◌*◌, ◌^◌, ◌≤◌, ◌<◌}
use mathlib.Core.Path.{◌≡◌, refl, sym, ap, ◌∙◌}
use mathlib.Core.Bool.{Bool, true, false}
use mathlib.Core.List.{List, [], ◌∷◌}
use native.Mathlib.Nat.{add-zero}
use native.Mathlib.Omega.{arith}
use lib.ListN.{length}
use Rattle.octets.specs.Bytes.{byte_at}
use Rattle.octets.specs.Stretch.{part, rest, joined}
use Rattle.octets.proofs.Stretches.{length_part, length_rest, byte_rest, rest-none, rest-rest, rest_past, length-joined, length-joined-none}
use Rattle.flow.specs.Flow.{longest}
use Rattle.ts.specs.Packet.{fill_byte, all_fill}
use Rattle.ts.proofs.Filling.{not_all_fill}
use Rattle.mpeg.specs.declared.reader.Front.{Front}
use Rattle.mpeg.specs.declared.reader.Standing.{Standing}
use Rattle.mpeg.specs.Packet.{pointed_length}
use Rattle.mpeg.specs.Frame.{beside_field, said_length, starts_well, good, may_begin}
use Rattle.mpeg.specs.Read.{Found, found, with_frame}
use Rattle.mpeg.specs.Inside.Standing.{Told, front_of, spoilt}
use Rattle.mpeg.specs.Inside.Fronts.{standing_with, Starts}
use Rattle.mpeg.proofs.Fronts.{says_of}
use Rattle.mpeg.proofs.Frames.{starts_well_lem, good_is, may_begin_is, said-part, first_part}
use Rattle.mpeg.proofs.Found.{found_well, found_none, found_filled, found-frame, found_open, more_steps, spoils_filled, spoils_long}

-- Where the reader stands then.
pub with_spoilt : (expected frames bytes : ℕ) (f : Found) → f.well ≡ false → spoilt ≡ standing_with expected frames bytes f
unfolding standing_with
with_spoilt expected frames bytes f e = rw e refl

pub with_nothing : (expected frames bytes : ℕ) →
    ◌≡◌ {A = Told} (record { sound = true; expected = expected; begun = front_of []; frames = frames; bytes = bytes })
    (standing_with expected frames bytes (found_well [] []))
unfolding standing_with
with_nothing expected frames bytes = rw (length-joined-none, add-zero frames, add-zero bytes) refl

with_open : (expected frames bytes : ℕ) (b : List ℕ) (may : Bool) → may ≡ true →
    ◌≡◌ {A = Told} (record { sound = true; expected = expected; begun = front_of b; frames = frames; bytes = bytes })
    (standing_with expected frames bytes (record { well = may; whole = []; open_end = b }))
unfolding standing_with
with_open expected frames bytes b may e = rw (e, length-joined-none, add-zero frames, add-zero bytes) refl

with_frame_lem : (expected frames bytes : ℕ) (frame : List ℕ) (f : Found) → good frame ≡ true →
    standing_with expected frames bytes (with_frame frame f) ≡ standing_with expected (frames + 1) (bytes + length frame) f
unfolding standing_with
with_frame_lem expected frames bytes frame f e =
    let more : frames + length (frame ∷ f.whole) ≡ frames + 1 + length f.whole = omega arith in
    let all : bytes + length (joined (frame ∷ f.whole)) ≡ bytes + length frame + length (joined f.whole) =
    omega (arith, length-joined frame f.whole) in
    rw (e, more, all) refl

-- The loop.
pub record Finding (packed : List ℕ) (standing : Standing) (frames bytes from : ℕ) : Type 0 where
  pub in_packet : from ≤ length packed
  pub few_bytes : bytes + (length packed - from) < 2 ^ 64
  pub few-frames : frames ≤ bytes
  pub so_far : standing_with standing.expected standing.frames standing.bytes (found pointed_length packed)
      ≡ standing_with standing.expected frames bytes (found pointed_length (rest packed from))

pub finding_begin : {packed : List ℕ} {standing : Standing} → Starts packed standing →
    Finding packed standing standing.frames standing.bytes 0
finding_begin {packed} {standing} s =
    record {
      in_packet = omega arith;
      few_bytes = omega (arith, s.few_bytes);
      few-frames = s.few-frames;
      so_far =
          ap (λ (l : List ℕ). standing_with standing.expected standing.frames standing.bytes (found pointed_length l))
          (sym (rest-none packed));
    }

-- At the end of the packet nothing is left.
pub finding_end : {packed : List ℕ} {standing : Standing} {frames bytes from : ℕ} {front : Front} →
    Finding packed standing frames bytes from → length packed ≤ from → front ≡ front_of [] →
    ◌≡◌ {A = Told} (record { sound = true; expected = standing.expected; begun = front; frames = frames; bytes = bytes })
    (standing_with standing.expected standing.frames standing.bytes (found pointed_length packed))
finding_end {packed} {standing} {frames} {bytes} {from} {front} f h e =
    let empty : found pointed_length (rest packed from) ≡ found_well [] [] =
    ap (found pointed_length) (rest_past packed from h) ∙ found_none pointed_length in
    rw e (with_nothing standing.expected frames bytes ∙ ap (standing_with standing.expected frames bytes) (sym empty)
    ∙ sym f.so_far)

module _ {packed : List ℕ} {standing : Standing} (s : Starts packed standing) {frames bytes from : ℕ}
    (f : Finding packed standing frames bytes from) (going : from < length packed) where
  here_long : length (rest packed from) ≡ length packed - from
  here_long = length_rest packed from

  here_first : byte_at (rest packed from) 0 ≡ byte_at packed from
  here_first =
      let e : from + 0 ≡ from = omega arith in
      byte_rest packed from 0 ∙ ap (byte_at packed) e

  not_filled : (byte_at packed from ≡ fill_byte → ⊥) → all_fill (rest packed from) ≡ false
  not_filled e = not_all_fill (rest packed from) (omega (arith, here_long)) (λ q. e (sym here_first ∙ q))

  -- 0xFF to the end
  pub finding_filled : {front : Front} (filled : Bool) → filled ≡ all_fill (rest packed from) → filled ≡ true →
      front ≡ front_of [] →
      ◌≡◌ {A = Told} (record { sound = true; expected = standing.expected; begun = front; frames = frames; bytes = bytes })
      (standing_with standing.expected standing.frames standing.bytes (found pointed_length packed))
  finding_filled {front} filled is all e =
      rw e (with_nothing standing.expected frames bytes
      ∙ ap (standing_with standing.expected frames bytes) (sym (found_filled 182 (rest packed from) (sym is ∙ all)))
      ∙ sym f.so_far)

  -- 0xFF, and not to the end
  pub finding_spoilt : {r : Told} → r ≡ spoilt → byte_at packed from ≡ fill_byte →
      (filled : Bool) → filled ≡ all_fill (rest packed from) → filled ≡ false →
      r ≡ standing_with standing.expected standing.frames standing.bytes (found pointed_length packed)
  finding_spoilt is first filled all some =
      is ∙ with_spoilt standing.expected frames bytes (found pointed_length (rest packed from))
      (spoils_filled 182 (rest packed from) (sym all ∙ some) (here_first ∙ first))
      ∙ sym f.so_far

  module _ (first : byte_at packed from ≡ fill_byte → ⊥) {front : Front} (is : front ≡ front_of (rest packed from)) {said : ℕ}
      (reads : said ≡ front.high * 256 + front.low + beside_field) where
    says : said ≡ said_length (rest packed from)
    says = says_of (rest packed from) is reads

    -- too long
    pub finding_long : {r : Told} → r ≡ spoilt → longest < said →
        r ≡ standing_with standing.expected standing.frames standing.bytes (found pointed_length packed)
    finding_long spoils h =
        spoils ∙ with_spoilt standing.expected frames bytes (found pointed_length (rest packed from))
        (spoils_long 182 (rest packed from) (not_filled first) (rw says at h))
        ∙ sym f.so_far

    starts : starts_well (rest packed from) ≡ true
    starts = starts_well_lem (rest packed from) (λ e. first (sym here_first ∙ e))

    -- it does not end here
    pub finding_open : front.size < said → said ≤ longest →
        ◌≡◌ {A = Told} (record { sound = true; expected = standing.expected; begun = front; frames = frames; bytes = bytes })
        (standing_with standing.expected standing.frames standing.bytes (found pointed_length packed))
    finding_open more short =
        let b = rest packed from in
        let size : front.size ≡ length b = ap (λ (x : Front). x.size) is in
        let k : length b < said_length b = omega (arith, says) in
        ap (λ (x : Front). record { sound = true; expected = standing.expected; begun = x; frames = frames; bytes = bytes }) is
        ∙ with_open standing.expected frames bytes b (may_begin b) (may_begin_is b k (omega (arith, says)) starts)
        ∙ ap (standing_with standing.expected frames bytes) (sym (found_open 182 b (not_filled first) k))
        ∙ sym f.so_far

    -- one frame more
    pub finding_turn : said ≤ front.size → said ≤ longest →
        Finding packed standing (frames + 1) (bytes + said) (from + said)
    finding_turn fits short =
        let b = rest packed from in
        let size : front.size ≡ length b = ap (λ (x : Front). x.size) is in
        let k : said_length b ≤ length b = omega (arith, says) in
        let q : said ≡ said_length b = says in
        let long : length b ≡ length packed - from = here_long in
        let frame = part b 0 (said_length b) in
        let frame-long : length frame ≡ said_length b = length_part b 0 (said_length b) (omega arith) in
        let frame-says : said_length frame ≡ said_length b = said-part b in
        let frame-starts : starts_well frame ≡ true = starts_well_lem frame (λ e. first (sym (first_part b ∙ here_first) ∙ e)) in
        let well : good frame ≡ true = good_is frame (omega arith) (omega arith) frame-starts in
        let behind : rest b (said_length b) ≡ rest packed (from + said) =
        rest-rest packed from (said_length b) ∙ ap (λ (n : ℕ). rest packed (from + n)) (sym says) in
        let few : length (rest b (said_length b)) ≤ 182 = omega (arith, length_rest b (said_length b), s.short) in
        let next : found pointed_length (rest packed from) ≡ with_frame frame (found pointed_length (rest packed (from + said))) =
        found-frame 182 b (not_filled first) k
        ∙ ap (with_frame frame) (more_steps 182 (rest b (said_length b)) few ∙ ap (found pointed_length) behind) in
        let by : bytes + length frame ≡ bytes + said = omega arith in
        record {
          in_packet = omega arith;
          few_bytes = omega (arith, f.few_bytes);
          few-frames = omega (arith, f.few-frames);
          so_far =
              f.so_far ∙ ap (standing_with standing.expected frames bytes) next
              ∙ with_frame_lem standing.expected frames bytes frame (found pointed_length (rest packed (from + said))) well
              ∙ ap (λ (n : ℕ). standing_with standing.expected (frames + 1) n (found pointed_length (rest packed (from + said)))) by;
        }
