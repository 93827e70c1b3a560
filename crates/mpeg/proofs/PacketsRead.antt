-- What the reader does with each packet that the writer writes (W3): the null packet, a packet that only goes on with a frame, and one with
-- the flag.
use mathlib.Core.Path.{◌≡◌, refl, sym, ap, ◌∙◌}
use Prim.Native.Nat.{ℕ, ◌+◌, ◌/◌, ◌%◌, ◌≤◌, ◌<◌}
use native.Mathlib.Omega.{arith}
use mathlib.Core.Bool.{Bool, true, false, or-true}
use mathlib.Core.Logic.{◌⊎◌, inl, inr}
use mathlib.Core.List.{List, [], ◌∷◌, ◌++◌}
use lib.Dec.{eqb}
use lib.ListN.{length}
use borrow.Author.Tests.{le-leb, eq-eqb}
use Rattle.octets.specs.Stretch.{part, rest}
use Rattle.octets.specs.Tests.{none, same}
use Rattle.octets.proofs.Stretches.{part-append, rest-none, rest-append}
use Rattle.octets.proofs.Tests.{same_self}
use Rattle.ts.specs.Packet.{head_length, sync_byte, flagged, payload_only, counts, count_of, next_count, header, all_fill, null_packet}
use Rattle.mpeg.specs.Packet.{pointed_length, frames_pid}
use Rattle.mpeg.specs.Frame.{good, may_begin}
use Rattle.mpeg.specs.Read.{Reading, any_count, found, has_header, count_fits, pointer, pointed, without_flag, with_flag, read_packet}
use Rattle.mpeg.proofs.Backlogs.{Mid, between, within, one}
use Rattle.mpeg.proofs.Found.{found_well}
use Rattle.mpeg.proofs.Ways.{read_without, read_with, without_good, without_more}
use Rattle.mpeg.proofs.Ways as ways

-- the reader between two packets, with all sound so far
abbrev pub standing : ℕ → List ℕ → List (List ℕ) → Reading
standing expected begun frames = record { sound = true; expected = expected; begun = begun; frames = frames }

-- the count that it expects is that of the writer, or any
abbrev pub Expects : ℕ → ℕ → Type 0
Expects expected count = (expected ≡ any_count) ⊎ (expected ≡ count % counts)

pub read_null : (expected : ℕ) (frames : List (List ℕ)) →
    read_packet (standing expected [] frames) null_packet ≡ standing expected [] frames
unfolding none
read_null expected frames = ways.read_null (standing expected [] frames) null_packet refl (same_self null_packet)

-- The header of a packet with frames.
module _ (count : ℕ) (body : List ℕ) where
  pub count_of_lem : (starts : Bool) → count_of (header starts frames_pid count ++ body) ≡ count % counts
  count_of_lem starts = omega arith

  not_null : (starts : Bool) → same (header starts frames_pid count ++ body) null_packet ≡ false
  unfolding same null_packet
  not_null true = refl
  not_null false = refl

  front_is : (starts : Bool) → part (header starts frames_pid count ++ body) 0 head_length ≡ header starts frames_pid count
  front_is starts = part-append (header starts frames_pid count) body

  has_header_lem : (starts : Bool) → has_header starts (header starts frames_pid count ++ body) ≡ true
  has_header_lem starts =
      let p = header starts frames_pid count ++ body in
      let once : count_of p % counts ≡ count % counts = omega (arith, count_of_lem starts) in
      ap (λ (l : List ℕ). same l (header starts frames_pid (count_of p))) (front_is starts)
      ∙ ap (λ (n : ℕ). same (header starts frames_pid count)
      (sync_byte ∷ flagged starts (frames_pid / 256) ∷ (frames_pid % 256) ∷ (payload_only + n) ∷ [])) once
      ∙ same_self (header starts frames_pid count)

  not_without : has_header false (header true frames_pid count ++ body) ≡ false
  unfolding same
  not_without = ap (λ (l : List ℕ). same l (header false frames_pid (count_of (header true frames_pid count ++ body)))) (front_is true)

  fits : (starts : Bool) (expected : ℕ) → Expects expected count → count_fits expected (header starts frames_pid count ++ body) ≡ true
  fits starts expected (inl e) = rw (eq-eqb expected any_count e) refl
  fits starts expected (inr e) =
      rw (eq-eqb expected (count_of (header starts frames_pid count ++ body)) (e ∙ sym (count_of_lem starts)))
      (or-true (eqb expected any_count))

next_of : (count : ℕ) (body : List ℕ) (starts : Bool) → next_count (count_of (header starts frames_pid count ++ body)) ≡ next_count count
next_of count body starts = ap next_count (count_of_lem count body starts) ∙ omega arith

-- Without the flag: the frame goes on, or ends.
module _ (expected count : ℕ) (b body : List ℕ) (done : List (List ℕ)) (e : Expects expected count) (begun : none b ≡ false) where
  abbrev without : List ℕ
  without = header false frames_pid count ++ body

  by_without : read_packet (standing expected b done) without ≡ without_flag (standing expected b done) without
  by_without =
      read_without (standing expected b done) without refl (not_null count body false) (fits count body false expected e)
      (has_header_lem count body false)

  behind_header : rest without head_length ≡ body
  behind_header = rest-append (header false frames_pid count) body

  pub read_on : good (b ++ body) ≡ false → may_begin (b ++ body) ≡ true →
      read_packet (standing expected b done) without ≡ standing (next_count count) (b ++ body) done
  read_on not-Good begins =
      by_without ∙ without_more (standing expected b done) without begun (rw behind_header not-Good) (rw behind_header begins)
      ∙ ap (λ (l : List ℕ). standing (next_count (count_of without)) (b ++ l) done) behind_header
      ∙ ap (λ (n : ℕ). standing n (b ++ body) done) (next_of count body false)

  pub read_whole : good (b ++ body) ≡ true →
      read_packet (standing expected b done) without ≡ standing (next_count count) [] (done ++ ((b ++ body) ∷ []))
  read_whole is-good =
      by_without ∙ without_good (standing expected b done) without begun (rw behind_header is-good)
      ∙ ap (λ (l : List ℕ). standing (next_count (count_of without)) [] (done ++ ((b ++ l) ∷ []))) behind_header
      ∙ ap (λ (n : ℕ). standing n [] (done ++ ((b ++ body) ∷ []))) (next_of count body false)

-- With the flag, over what the packet says.
with_between : (expected : ℕ) (p bytes : List ℕ) (done whole : List (List ℕ)) (front : List ℕ) → pointer p ≡ 0 → pointed p ≡ bytes →
    rest bytes 0 ≡ bytes →
    all_fill bytes ≡ false → found pointed_length bytes ≡ found_well whole front →
    with_flag (standing expected [] done) p ≡ standing (next_count (count_of p)) front (done ++ [] ++ whole)
unfolding with_flag none
with_between expected p bytes done whole front at_zero are all starts is_found = rw (at_zero, are, all, starts, is_found) refl

with_within : (expected : ℕ) (p t bytes : List ℕ) (x : ℕ) (b : List ℕ) (done whole : List (List ℕ)) (front : List ℕ) →
    pointer p ≡ length t → pointed p ≡ t ++ bytes → length t ≤ pointed_length → part (t ++ bytes) 0 (length t) ≡ t →
    rest (t ++ bytes) (length t) ≡ bytes →
    good (x ∷ b ++ t) ≡ true →
    found pointed_length bytes ≡ found_well whole front →
    with_flag (standing expected (x ∷ b) done) p ≡ standing (next_count (count_of p)) front (done ++ ((x ∷ b ++ t) ∷ []) ++ whole)
unfolding with_flag none
with_within expected p t bytes x b done whole front at-r are fits ends behind is-good is_found =
    rw (at-r, are, ends, behind, le-leb (length t) pointed_length fits, is-good, is_found) refl

abbrev pub flagged_packet : ℕ → List ℕ → List ℕ → List ℕ
flagged_packet count t bytes = header true frames_pid count ++ (length t ∷ (t ++ bytes))

pointed_is : (count : ℕ) (t bytes : List ℕ) → pointed (flagged_packet count t bytes) ≡ t ++ bytes
pointed_is count t bytes = rest-append (header true frames_pid count ++ (length t ∷ [])) (t ++ bytes)

by_with : (expected count : ℕ) (t bytes : List ℕ) (done : List (List ℕ)) (b : List ℕ) → Expects expected count →
    read_packet (standing expected b done) (flagged_packet count t bytes)
    ≡ with_flag (standing expected b done) (flagged_packet count t bytes)
by_with expected count t bytes done b e =
    let body = length t ∷ (t ++ bytes) in
    read_with
    (standing expected b done)
    (flagged_packet count t bytes)
    refl
    (not_null count body true)
    (fits count body true expected e)
    (not_without count body)
    (has_header_lem count body true)

module _ (expected count : ℕ) (bytes : List ℕ) (done whole : List (List ℕ)) (front : List ℕ) (e : Expects expected count)
    (is_found : found pointed_length bytes ≡ found_well whole front) where
  pub read-ends : {b t : List ℕ} → Mid b t → length t ≤ pointed_length → (0 < length t → good (b ++ t) ≡ true) →
      (length t ≡ 0 → all_fill bytes ≡ false) →
      read_packet (standing expected b done) (flagged_packet count t bytes) ≡ standing (next_count count) front (done ++ one b t ++ whole)
  read-ends between r ends starts =
      by_with expected count [] bytes done [] e
      ∙ with_between expected (flagged_packet count [] bytes) bytes done whole front refl (pointed_is count [] bytes) (rest-none bytes)
      (starts refl) is_found
      ∙ ap (λ (n : ℕ). standing n front (done ++ [] ++ whole)) (next_of count (0 ∷ bytes) true)
  read-ends (within x b y u) r ends starts =
      let t = y ∷ u in
      let p = flagged_packet count t bytes in
      let is-good = ends (omega arith) in
      by_with expected count t bytes done (x ∷ b) e
      ∙ with_within expected p t bytes x b done whole front refl (pointed_is count t bytes) r (part-append t bytes) (rest-append t bytes)
      is-good is_found
      ∙ ap (λ (n : ℕ). standing n front (done ++ ((x ∷ b ++ t) ∷ []) ++ whole)) (next_of count (length t ∷ (t ++ bytes)) true)
