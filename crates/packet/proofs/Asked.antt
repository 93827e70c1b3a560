-- Segment k of a packet, asked for by its number. Where the request is not refused, the segment's entry and its body lie in the packet,
-- and what is given is the body of that segment; where it is refused, nothing is given.
use Prim.Native.Nat.{ℕ, zero, suc, ◌+◌, ◌*◌, ◌<◌, ◌≤◌}
use mathlib.Core.Path.{◌≡◌, refl, sym, ap, ◌∙◌}
use mathlib.Core.List.{List, []}
use native.Mathlib.Omega.{arith}
use lib.ListN.{length}
use Rattle.octets.specs.Stretch.{part}
use Rattle.octets.proofs.Stretches.{length_part, part_none, part-rest}
use Rattle.packet.specs.Header.{Packet, lead, id_length, header_length, segment_count, sub}
use Rattle.packet.specs.Segments.{entry_width, length_at, body_at, segment_at}
use Rattle.packet.specs.declared.Extent.{Extent}
use Rattle.packet.specs.Check.{segment_cause, extent_by, segment_extent, segment_given}
use Rattle.packet.proofs.Entries.{entry_within}
use Rattle.packet.proofs.Passing.{EarlyPassed, PspPassed, entries-inside, body-inside, body-some, check-passed, cause_passed}
use Rattle.packet.proofs.Passing.{sub-length}

abbrev nothing : Extent
nothing = record { start = 0; size = 0 }

extent_refused_by : (c : ℕ) (p : Packet) (k : ℕ) → (c ≡ 0 → ⊥) → extent_by c p k ≡ nothing
extent_refused_by zero p k s = absurd (s refl)
extent_refused_by (suc c) p k s = refl

pub extent_refused : (kind : ℕ) (p : Packet) (k : ℕ) → (segment_cause kind p k ≡ 0 → ⊥) → segment_extent kind p k ≡ nothing
unfolding segment_extent
extent_refused kind p k s = extent_refused_by (segment_cause kind p k) p k s

module _ (kind : ℕ) (p : Packet) (k : ℕ) (given : segment_cause kind p k ≡ 0) where
  pub extent_given : segment_extent kind p k
      ≡ record { start = lead p + id_length + body_at entry_width (sub p) k; size = length_at entry_width (sub p) k }
  unfolding segment_extent
  extent_given = ap (λ (c : ℕ). extent_by c p k) given

  pub early : EarlyPassed p
  early = (check-passed p (cause_passed kind p k given).0).0

  pub psp : PspPassed entry_width (sub p)
  psp = (check-passed p (cause_passed kind p k given).0).1

  pub there : k < segment_count (sub p)
  there = (cause_passed kind p k given).1

  -- the stretch lies in the packet
  pub given_inside : lead p + id_length + (body_at entry_width (sub p) k + length_at entry_width (sub p) k) ≤ length p.bytes
  given_inside =
      omega (arith, body-inside entry_width (sub p) psp.segments k there, sub-length p early.not_short)

  -- it is the segment that the data call will see
  pub given_is_segment : segment_given kind p k ≡ (segment_at entry_width (sub p) k).body
  unfolding segment_given segment_at
  given_is_segment =
      ap (λ (e : Extent). part p.bytes e.start e.size) extent_given
      ∙ sym (part-rest p.bytes (lead p + id_length) (body_at entry_width (sub p) k) (length_at entry_width (sub p) k))

-- Refused or not, the extent lies in the packet.
inside_by : (kind : ℕ) (p : Packet) (k c : ℕ) → segment_cause kind p k ≡ c →
    (extent_by c p k).start + (extent_by c p k).size ≤ length p.bytes
inside_by kind p k zero given = omega (arith, given_inside kind p k given)
inside_by kind p k (suc c) refused = omega arith

pub extent_inside : (kind : ℕ) (p : Packet) (k : ℕ) →
    (segment_extent kind p k).start + (segment_extent kind p k).size ≤ length p.bytes
unfolding segment_extent
extent_inside kind p k = inside_by kind p k (segment_cause kind p k) refl

-- The law that ties the two calls: the stretch is empty exactly when the cause is not 0.
pub given_some : (kind : ℕ) (p : Packet) (k : ℕ) → segment_cause kind p k ≡ 0 → segment_given kind p k ≡ [] → ⊥
unfolding segment_given
given_some kind p k given none =
    let e = segment_extent kind p k in
    body-some entry_width (sub p) (psp kind p k given).segments k (there kind p k given)
    (ap (λ (x : Extent). x.size) (sym (extent_given kind p k given))
    ∙ sym (length_part p.bytes e.start e.size (extent_inside kind p k))
    ∙ ap length none)

pub given_none : (kind : ℕ) (p : Packet) (k : ℕ) → (segment_cause kind p k ≡ 0 → ⊥) → segment_given kind p k ≡ []
unfolding segment_given
given_none kind p k refused =
    ap (λ (e : Extent). part p.bytes e.start e.size) (extent_refused kind p k refused) ∙ part_none p.bytes 0

-- What the code needs to know of a request that is not refused, of the slice that it has cut from the packet.
pub record Given (p : Packet) (s : List ℕ) (k : ℕ) : Type 0 where
  pub long : lead p + id_length ≤ length p.bytes
  pub among : k < segment_count s
  pub entries : header_length + entry_width * segment_count s ≤ length s
  pub entry : header_length + entry_width * k + 1 < length s
  pub body : lead p + id_length + body_at entry_width s k ≤ length p.bytes

module _ (kind : ℕ) (p : Packet) (s : List ℕ) (k : ℕ) (given : segment_cause kind p k ≡ 0) (cut : s ≡ sub p) where
  pub given_facts : Given p s k
  given_facts =
      let inside = entries-inside entry_width (sub p) (psp kind p k given).segments in
      let among = there kind p k given in
      let facts : Given p (sub p) k =
      record {
        long = omega (arith, (early kind p k given).not_short);
        among = among;
        entries = inside;
        entry = entry_within entry_width k (segment_count (sub p)) (length (sub p)) (omega arith) among inside;
        body = omega (arith, given_inside kind p k given);
      } in
      rw (sym cut) at facts

  -- .. and that what it finds there is the extent
  pub extent_found : (before place size : ℕ) → before ≡ lead p + id_length → place ≡ body_at entry_width s k →
      size ≡ length_at entry_width s k → record { start = before + place; size = size } ≡ segment_extent kind p k
  extent_found before place size from at long =
      let body : place ≡ body_at entry_width (sub p) k = at ∙ ap (λ (l : List ℕ). body_at entry_width l k) cut in
      let its : size ≡ length_at entry_width (sub p) k = long ∙ ap (λ (l : List ℕ). length_at entry_width l k) cut in
      rw (from, body, its) (sym (extent_given kind p k given))
