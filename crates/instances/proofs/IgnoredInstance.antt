-- A closed instance of `ignored_bits`: A with X set in both of its bytes, and a D-MPT packet with another second byte. They cite
-- definitions alone, so that they can be held against wrong ones.
use Prim.Native.Nat.{ℕ}
use mathlib.Core.Path.{◌≡◌, refl, sym, ap, ◌∙◌}
use mathlib.Core.Bool.{false, true≢false}
use mathlib.Core.List.{List, [], ◌∷◌}
use lib.ListN.{set, replicate}
use Rattle.octets.specs.Stretch.{part, rest, put, joined, lengths_of}
use Rattle.octets.specs.Count.{any, least, sum_to, up_to}
use Rattle.flow.specs.Flow.{fresh}
use Rattle.packet.specs.Header.{Packet, ip, in_udp}
use Rattle.packet.specs.Segments.{body_at, segment_at, segments}
use Rattle.packet.specs.Psp.{wanted}
use Rattle.packet.specs.Dmpt.{mpeg_at, mpegs}
use Rattle.packet.specs.Ignored.{SameRead, SameCount}
use Rattle.packet.specs.Check.{check_refusals, check, cause_refusals, segment_cause, segment_extent, segment_given}
use Rattle.table.specs.declared.Table.{Table}
use Rattle.table.specs.Rows.{is_dmpt, terms_at, closed_row}
use Rattle.table.specs.Broken.{broken}
use Rattle.join.specs.Slices.{Slices}
use Rattle.join.specs.Join.{settled_by, settled, fate_by, fate, at_gap, in_order, psp_fate}
use Rattle.pass.specs.Pass.{pass_all, dmpt_fate}
use Rattle.card.specs.Hear.{hear}
use Rattle.card.specs.Receive.{row_of, Outcome, carried_out, refused, received_by, received}
use Rattle.promises.specs.Ignored.{IgnoredBits}
use Rattle.promises.specs.Marked.{A}

-- 0x41 with X is 0x49, and a count of 2 with the other X is 0x82
abbrev pub marked_x : List ℕ
marked_x = set (set A 4 0x49) 5 0x82

pub same_read : SameRead (ip A) (ip marked_x)
unfolding rest
same_read =
    record { transports = refl; lengths = refl; versions = refl; sessions = refl; above_x = refl; below_x = refl; from-number = refl }

pub same_count : SameCount (ip A) (ip marked_x)
unfolding rest
same_count = refl

-- a D-MPT packet over UDP, with S, and the same with X and with its second byte full; its MPEG packet has PID 0x10
abbrev pub dmpt_with : ℕ → ℕ → Packet
dmpt_with first second =
    in_udp (0x00 ∷ 0x00 ∷ 0x01 ∷ 0x03 ∷ first ∷ second ∷ 0x12 ∷ 0x34 ∷ 0x47 ∷ 0x00 ∷ 0x10 ∷ replicate 185 0xA1)

pub same_dmpt : SameRead (dmpt_with 0x40 0x00) (dmpt_with 0x48 0xFF)
unfolding rest
same_dmpt =
    record { transports = refl; lengths = refl; versions = refl; sessions = refl; above_x = refl; below_x = refl; from-number = refl }

-- a table with both sessions open, and slices of zeros
abbrev pub table : Table
table =
    record {
      rows =
          record { id = 0x101; kind = 1; flows = replicate 4 fresh }
          ∷ record { id = 0x103; kind = 2; flows = replicate 4 fresh }
          ∷ closed_row
          ∷ closed_row
          ∷ closed_row
          ∷ closed_row
          ∷ [];
    }

abbrev pub slices : Slices
slices = record { holding = replicate 49152 0; output = replicate 6144 0; lengths = replicate 127 0 }

-- without X: what is counted, checked and given
abbrev pub told : Outcome → List ℕ
told o = o.answer.code ∷ o.answer.frames ∷ o.answer.bytes ∷ o.answer.dropped ∷ o.answer.gap ∷ part o.slices.output 0 6

pub without_x : (told (received table (ip A) slices) ≡ 0 ∷ 1 ∷ 6 ∷ 0 ∷ 0 ∷ 0x11 ∷ 0x12 ∷ 0x13 ∷ 0x14 ∷ 0x15 ∷ 0x16 ∷ [])
    × (told (received table (dmpt_with 0x40 0x00) slices) ≡ 0 ∷ 1 ∷ 188 ∷ 0 ∷ 0 ∷ 0x47 ∷ 0x00 ∷ 0x10 ∷ 0xA1 ∷ 0xA1 ∷ 0xA1 ∷ [])
    × (check 1 (ip A) ≡ 0) × (check 2 (dmpt_with 0x40 0x00) ≡ 0)
    × (segment_cause 1 (ip A) 2 ≡ 14) × (segment_extent 1 (ip A) 1 ≡ record { start = 18; size = 2 })
    × (segment_given 1 (ip A) 1 ≡ 0x21 ∷ 0x22 ∷ [])
unfolding part rest put joined lengths_of any least sum_to up_to body_at segment_at segments wanted mpeg_at mpegs check check_refusals
    segment_cause cause_refusals segment_extent segment_given broken settled_by settled fate_by fate at_gap in_order psp_fate pass_all
    dmpt_fate hear carried_out refused received_by received
without_x = (refl, refl, refl, refl, refl, refl, refl)

-- so with X: `ignored_bits`, applied
abbrev pub IgnoredBitsHere : Type 0
IgnoredBitsHere =
    (told (received table (ip marked_x) slices) ≡ 0 ∷ 1 ∷ 6 ∷ 0 ∷ 0 ∷ 0x11 ∷ 0x12 ∷ 0x13 ∷ 0x14 ∷ 0x15 ∷ 0x16 ∷ [])
    × (told (received table (dmpt_with 0x48 0xFF) slices) ≡ 0 ∷ 1 ∷ 188 ∷ 0 ∷ 0 ∷ 0x47 ∷ 0x00 ∷ 0x10 ∷ 0xA1 ∷ 0xA1 ∷ 0xA1 ∷ [])
    × (check 1 (ip marked_x) ≡ 0) × (check 2 (dmpt_with 0x48 0xFF) ≡ 0)
    × (segment_cause 1 (ip marked_x) 2 ≡ 14) × (segment_extent 1 (ip marked_x) 1 ≡ record { start = 18; size = 2 })
    × (segment_given 1 (ip marked_x) 1 ≡ 0x21 ∷ 0x22 ∷ [])

-- its session is D-MPT, so no count is asked for
not_psp : is_dmpt (terms_at table (row_of table (dmpt_with 0x40 0x00))).kind ≡ false →
    SameCount (dmpt_with 0x40 0x00) (dmpt_with 0x48 0xFF)
unfolding any least rest
not_psp e = absurd (true≢false e)

pub ignored_bits_applied : IgnoredBits → IgnoredBitsHere
ignored_bits_applied theorem =
    let psp = theorem (ip A) (ip marked_x) same_read in
    let dmpt = theorem (dmpt_with 0x40 0x00) (dmpt_with 0x48 0xFF) same_dmpt in (
      ap told (sym (psp.received_alike table slices (λ e. same_count))) ∙ without_x.0,
      ap told (sym (dmpt.received_alike table slices not_psp)) ∙ without_x.1,
      sym (psp.checked_alike 1 (λ e. same_count)) ∙ without_x.2,
      sym (dmpt.checked_alike 2 (λ e. absurd (true≢false (sym e)))) ∙ without_x.3,
      sym (psp.causes_alike 1 2 same_count) ∙ without_x.4,
      sym (psp.places_alike 1 1 same_count) ∙ without_x.5,
      sym (psp.segments_alike 1 1 same_count) ∙ without_x.6,
    )
