-- Packets A and B of document 01, changed ones, D-MPT packets, and both over UDP, by computation: the definitions answer what the papers
-- say. Each line would be refused with another number in it.
use Prim.Native.Nat.{ℕ, ◌+◌}
use mathlib.Core.Path.{◌≡◌, refl}
use mathlib.Core.Bool.{true, false}
use mathlib.Core.List.{List, [], ◌∷◌, ◌++◌}
use lib.ListN.{length, take, set, replicate}
use Rattle.octets.specs.Stretch.{part, rest}
use Rattle.octets.specs.Count.{any, sum_to, up_to}
use Rattle.flow.specs.Flow.{top_flow, flows}
use Rattle.ts.specs.Packet.{pid, null_pid}
use Rattle.packet.specs.declared.Extent.{Extent}
use Rattle.packet.specs.Header.{packet_by, over_ip, over_udp, udp_lead, longest_packet, ip, udp, udp_front, in_udp, sub, session_id}
use Rattle.packet.specs.Header.{s_set, flow_id, segment_count, number}
use Rattle.packet.specs.Header.{id_length, header_length, shortest_packet}
use Rattle.packet.specs.Segments.{entry_width, length_in, segments, segment_at, body_at}
use Rattle.packet.specs.Psp.{wanted}
use Rattle.packet.specs.Dmpt.{mpeg_at, mpegs}
use Rattle.packet.specs.Check.{check_refusals, check, cause_refusals, segment_cause, segment_extent, segment_given}

abbrev pub A : List ℕ
A =
    0x00 ∷ 0x00 ∷ 0x01 ∷ 0x01 ∷ 0x41 ∷ 0x02 ∷ 0xFF ∷ 0xFF ∷ 0xC0 ∷ 0x06 ∷ 0x80 ∷ 0x02 ∷ 0x11 ∷ 0x12 ∷ 0x13 ∷ 0x14 ∷ 0x15 ∷ 0x16
    ∷ 0x21 ∷ 0x22 ∷ []

abbrev pub B : List ℕ
B = 0x00 ∷ 0x00 ∷ 0x01 ∷ 0x01 ∷ 0x41 ∷ 0x01 ∷ 0x00 ∷ 0x00 ∷ 0x40 ∷ 0x07 ∷ 0x23 ∷ 0x24 ∷ 0x25 ∷ 0x26 ∷ 0x27 ∷ 0x28 ∷ 0x29 ∷ []

abbrev check_ip : ℕ → List ℕ → ℕ
check_ip kind bytes = check kind (ip bytes)

abbrev check_udp : ℕ → List ℕ → ℕ
check_udp kind bytes = check kind (udp bytes)

abbrev segment_given_ip : List ℕ → ℕ → List ℕ
segment_given_ip bytes k = segment_given 1 (ip bytes) k

abbrev segment_extent_ip : List ℕ → ℕ → Extent
segment_extent_ip bytes k = segment_extent 1 (ip bytes) k

abbrev segment_cause_ip : List ℕ → ℕ → ℕ
segment_cause_ip bytes k = segment_cause 1 (ip bytes) k

-- limits that the paper says in two ways
limits : (top_flow + 1 ≡ flows) × (id_length + header_length ≡ shortest_packet)
    × (udp_lead + shortest_packet ≡ 12) × (udp_lead + longest_packet ≡ 4104) × (over_ip ≡ 1) × (over_udp ≡ 2)
limits = (refl, refl, refl, refl, refl, refl)

a_fields : (session_id (ip A) ≡ 0x101) × (flow_id (sub (ip A)) ≡ 1) × (s_set (sub (ip A)) ≡ true)
    × (segment_count (sub (ip A)) ≡ 2) × (number (sub (ip A)) ≡ 0xFFFF)
unfolding rest
a_fields = (refl, refl, refl, refl, refl)

a_segments : segments entry_width (sub (ip A))
    ≡ record { begins = true; ends = true; body = 0x11 ∷ 0x12 ∷ 0x13 ∷ 0x14 ∷ 0x15 ∷ 0x16 ∷ [] }
    ∷ record { begins = true; ends = false; body = 0x21 ∷ 0x22 ∷ [] }
    ∷ []
unfolding segments segment_at body_at rest part sum_to up_to
a_segments = refl

-- the check of A, and of A as another kind; of 7 bytes, 8, 4,100 and 4,101; of no bytes
lengths-judged : (check_ip 1 A ≡ 0) × (check_ip 0 A ≡ 24) × (check_ip 3 A ≡ 24) × (check_ip 1 (take 7 A) ≡ 2)
    × (check_ip 1 (take 8 A) ≡ 10) × (check_ip 1 (A ++ replicate 4080 0) ≡ 10) × (check_ip 1 (A ++ replicate 4081 0) ≡ 3)
    × (check_ip 1 [] ≡ 2) × (check_ip 2 [] ≡ 2) × (check_ip 3 [] ≡ 24)
unfolding check check_refusals rest wanted body_at any sum_to
lengths-judged = (refl, refl, refl, refl, refl, refl, refl, refl, refl, refl)

-- a control message's ID is four zero bytes; any other byte makes it a session's
ids_judged : (check_ip 1 (set (set A 2 0) 3 0) ≡ 4) × (check_ip 1 (set (set (set A 2 0) 3 0) 1 1) ≡ 0)
    × (check_ip 1 (set (set (set A 2 0) 3 0) 0 1) ≡ 0) × (check_ip 1 (set A 3 0) ≡ 0) × (check_ip 1 (set A 2 0) ≡ 0)
unfolding check check_refusals rest wanted body_at any sum_to
ids_judged = (refl, refl, refl, refl, refl)

-- V set; H 01, 10, 11; flow 3, 4 and 7; S clear, which is no fault (W2); X and the reserved bit, which nobody reads; 6 before 7
header-judged : (check_ip 1 (set A 4 0xC1) ≡ 6) × (check_ip 1 (set A 4 0x51) ≡ 6) × (check_ip 1 (set A 4 0x61) ≡ 6)
    × (check_ip 1 (set A 4 0x71) ≡ 6) × (check_ip 1 (set A 4 0x43) ≡ 0) × (check_ip 1 (set A 4 0x44) ≡ 7) × (check_ip 1 (set A 4 0x47) ≡ 7)
    × (check_ip 1 (set A 4 0x01) ≡ 0) × (check_ip 1 (set (set A 4 0x49) 5 0x82) ≡ 0) × (check_ip 1 (set A 4 0x97) ≡ 6)
    × (check_ip 1 (set A 4 0x07) ≡ 7)
unfolding check check_refusals rest wanted body_at any sum_to
header-judged = (refl, refl, refl, refl, refl, refl, refl, refl, refl, refl, refl)

-- M10: count 0, with the reserved bit too. M11: the last byte cut; one byte too many; entries cut, whole and in the middle. With S
-- clear 9, 10 and 11 are the same: no segment, a byte too few, B missing on the second, E on the first
segments-judged : (check_ip 1 (set A 5 0) ≡ 9) × (check_ip 1 (set A 5 0x80) ≡ 9) × (check_ip 1 (take 19 A) ≡ 10)
    × (check_ip 1 (A ++ (0 ∷ [])) ≡ 10) × (check_ip 1 (take 10 A) ≡ 10) × (check_ip 1 (take 11 A) ≡ 10)
    × (check_ip 1 (set (set A 4 0x01) 5 0) ≡ 9) × (check_ip 1 (set (take 19 A) 4 0x01) ≡ 10)
    × (check_ip 1 (set (set A 4 0x01) 10 0x00) ≡ 11) × (check_ip 1 (set (set A 4 0x01) 8 0x80) ≡ 11)
unfolding check check_refusals rest wanted body_at any sum_to
segments-judged = (refl, refl, refl, refl, refl, refl, refl, refl, refl, refl)

-- An empty segment, where the lengths add up and where they do not. B may be missing on the first only, E on the last only.
marks_judged : (check_ip 1 (set (set A 9 8) 11 0) ≡ 11) × (check_ip 1 (set A 11 0) ≡ 10) × (check_ip 1 B ≡ 0)
    × (check_ip 1 (set A 10 0x00) ≡ 11) × (check_ip 1 (set A 8 0x80) ≡ 11) × (check_ip 1 (set A 8 0x40) ≡ 0)
    × (check_ip 1 (set A 10 0xC0) ≡ 0) × (check_ip 1 (set B 8 0x00) ≡ 0) × (check_ip 1 (set A 10 0x40) ≡ 11)
unfolding check check_refusals rest wanted body_at any sum_to
marks_judged = (refl, refl, refl, refl, refl, refl, refl, refl, refl)

-- the second segment of A, and one that it has not; of a packet that is refused, none
a_second : (segment_given_ip A 1 ≡ 0x21 ∷ 0x22 ∷ []) × (segment_extent_ip A 1 ≡ record { start = 18; size = 2 })
    × (segment_cause_ip A 1 ≡ 0) × (segment_given_ip A 2 ≡ []) × (segment_cause_ip A 2 ≡ 14) × (segment_cause_ip (take 19 A) 1 ≡ 10)
    × (segment_cause_ip (take 19 A) 2 ≡ 10) × (segment_extent_ip (take 19 A) 1 ≡ record { start = 0; size = 0 })
unfolding segment_given segment_extent segment_cause cause_refusals check_refusals body_at part rest wanted any sum_to
a_second = (refl, refl, refl, refl, refl, refl, refl, refl)

-- two segments of equal bytes are two places
twins : (segment_extent_ip (0 ∷ 0 ∷ 1 ∷ 1 ∷ 0x41 ∷ 2 ∷ 0 ∷ 0 ∷ 0xC0 ∷ 1 ∷ 0xC0 ∷ 1 ∷ 0x33 ∷ 0x33 ∷ []) 0 ≡ record { start = 12; size = 1 })
    × (segment_extent_ip (0 ∷ 0 ∷ 1 ∷ 1 ∷ 0x41 ∷ 2 ∷ 0 ∷ 0 ∷ 0xC0 ∷ 1 ∷ 0xC0 ∷ 1 ∷ 0x33 ∷ 0x33 ∷ []) 1 ≡ record { start = 13; size = 1 })
unfolding segment_extent segment_cause cause_refusals check_refusals body_at rest wanted any sum_to
twins = (refl, refl)

-- D-MPT: two MPEG packets, the second a null one
abbrev mpeg : ℕ → List ℕ
mpeg n = 0x47 ∷ 0x1F ∷ n ∷ replicate 185 0

abbrev D : List ℕ
D = 0x00 ∷ 0x00 ∷ 0x01 ∷ 0x02 ∷ 0x00 ∷ 0x7F ∷ 0x00 ∷ 0x00 ∷ (mpeg 0xFE ++ mpeg 0xFF)

d_bodies : (mpegs (sub (ip D)) ≡ mpeg 0xFE ∷ mpeg 0xFF ∷ []) × (pid (mpeg 0xFE) ≡ 0x1FFE) × (pid (set (mpeg 0xFF) 1 0xFF) ≡ 0x1FFF)
unfolding rest mpegs mpeg_at part up_to
d_bodies = (refl, refl, refl)

-- S clear and set; X; byte 5 anything; 7 bytes; session 0; V set; H 01; flow 1; X with flow 7; nothing carried; a byte too few, a byte too
-- many; the second MPEG packet, and the first, not starting 0x47; one MPEG packet alone
d_judged : (check_ip 2 D ≡ 0) × (check_ip 2 (set D 4 0x40) ≡ 0) × (check_ip 2 (set D 4 0x48) ≡ 0) × (check_ip 2 (set D 5 0) ≡ 0)
    × (check_ip 2 (take 7 D) ≡ 2) × (check_ip 2 (set (set D 2 0) 3 0) ≡ 4) × (check_ip 2 (set D 4 0x80) ≡ 6)
    × (check_ip 2 (set D 4 0x10) ≡ 6)
    × (check_ip 2 (set D 4 0x01) ≡ 7) × (check_ip 2 (set D 4 0x4F) ≡ 7) × (check_ip 2 (take 8 D) ≡ 9) × (check_ip 2 (take 383 D) ≡ 10)
    × (check_ip 2 (D ++ (0x47 ∷ [])) ≡ 10) × (check_ip 2 (set D 196 0x46) ≡ 11) × (check_ip 2 (set D 8 0x46) ≡ 11)
    × (check_ip 2 (take 196 D) ≡ 0)
unfolding check check_refusals rest any sum_to mpeg_at part
d_judged = (refl, refl, refl, refl, refl, refl, refl, refl, refl, refl, refl, refl, refl, refl, refl, refl)

-- Fields in whole: a number of two unlike bytes; S beside V; 127 segments, with the reserved bit; a length of 14 bits; the null PID
fields : (number (0x41 ∷ 0x02 ∷ 0x12 ∷ 0x34 ∷ []) ≡ 0x1234) × (s_set (0xC0 ∷ []) ≡ true) × (segment_count (0x41 ∷ 0xFF ∷ []) ≡ 127)
    × (length_in 0xFFFF ≡ 16383) × (length_in 0xC800 ≡ 2048) × (pid (mpeg 0xFF) ≡ null_pid)
fields = (refl, refl, refl, refl, refl, refl)

-- PSP on flow 0
flow_0 : check_ip 1 (set A 4 0x40) ≡ 0
unfolding check check_refusals rest wanted body_at any sum_to
flow_0 = refl

-- Orders that nothing above tells apart: 3 before 4, 4 before 6; for D-MPT 6 before 7, 7 before 9, 10 for less than one MPEG packet, 10
-- before 11
orders : (check_ip 1 (set (set (A ++ replicate 4081 0) 2 0) 3 0) ≡ 3) × (check_ip 1 (set (set (set A 2 0) 3 0) 4 0xC1) ≡ 4)
    × (check_ip 2 (set D 4 0x81) ≡ 6) × (check_ip 2 (set (take 8 D) 4 0x01) ≡ 7) × (check_ip 2 (take 9 D) ≡ 10)
    × (check_ip 2 (take 383 (set D 8 0x46)) ≡ 10)
unfolding check check_refusals rest wanted body_at any sum_to mpeg_at part
orders = (refl, refl, refl, refl, refl, refl)

-- Three segments of one byte: all whole; the middle one, and the last, without B; the first, and the middle one, without E
abbrev three : ℕ → ℕ → ℕ → List ℕ
three a b c = 0 ∷ 0 ∷ 1 ∷ 1 ∷ 0x41 ∷ 3 ∷ 0 ∷ 0 ∷ a ∷ 1 ∷ b ∷ 1 ∷ c ∷ 1 ∷ 0x11 ∷ 0x22 ∷ 0x33 ∷ []

middles : (check_ip 1 (three 0x40 0xC0 0x80) ≡ 0) × (check_ip 1 (three 0xC0 0x40 0xC0) ≡ 11) × (check_ip 1 (three 0xC0 0xC0 0x40) ≡ 11)
    × (check_ip 1 (three 0x80 0xC0 0xC0) ≡ 11) × (check_ip 1 (three 0xC0 0x80 0xC0) ≡ 11)
unfolding check check_refusals rest wanted body_at any sum_to
middles = (refl, refl, refl, refl, refl)

-- as many as there are: three segments, one MPEG packet
as_many : (length (segments entry_width (sub (ip (three 0xC0 0xC0 0xC0)))) ≡ 3) × (mpegs (sub (ip (take 196 D))) ≡ mpeg 0xFE ∷ [])
unfolding segments segment_at body_at rest part sum_to up_to mpegs mpeg_at
as_many = (refl, refl)

-- entries of four bytes: marks and length stand in the first two
wide_entries : segments 4 (0x41 ∷ 2 ∷ 0 ∷ 0 ∷ 0xC0 ∷ 1 ∷ 9 ∷ 9 ∷ 0x80 ∷ 2 ∷ 9 ∷ 9 ∷ 0x11 ∷ 0x21 ∷ 0x22 ∷ [])
    ≡ record { begins = true; ends = true; body = 0x11 ∷ [] } ∷ record { begins = true; ends = false; body = 0x21 ∷ 0x22 ∷ [] } ∷ []
unfolding segments segment_at body_at part sum_to up_to
wide_entries = refl

-- Over UDP (W1). Behind the four bytes the session ID and the rest are read as over IP, and the limits are four higher.
over_udp_lem : (check_udp 1 (udp_front ++ A) ≡ 0) × (check_udp 2 (udp_front ++ D) ≡ 0) × (check_udp 1 (udp_front ++ take 7 A) ≡ 2)
    × (check_udp 1 (udp_front ++ take 8 A) ≡ 10) × (check_udp 1 (udp_front ++ A ++ replicate 4080 0) ≡ 10)
    × (check_udp 1 (udp_front ++ A ++ replicate 4081 0) ≡ 3) × (check_udp 1 (udp_front ++ set (set A 2 0) 3 0) ≡ 4)
    × (check_udp 1 (udp_front ++ set A 4 0xC1) ≡ 6) × (check_udp 1 [] ≡ 2) × (session_id (in_udp A) ≡ 0x101)
unfolding check check_refusals rest wanted body_at any sum_to mpeg_at part
over_udp_lem = (refl, refl, refl, refl, refl, refl, refl, refl, refl, refl)

-- 15: T set, also with another version; versions 0 to 4, 7, 11 and 15; version 3 with the bits above it set, and every bit that nobody
-- reads
versions : (check_udp 1 (0 ∷ 0 ∷ 0 ∷ 0 ∷ A) ≡ 15) × (check_udp 1 (0 ∷ 1 ∷ 0 ∷ 0 ∷ A) ≡ 15) × (check_udp 1 (0 ∷ 2 ∷ 0 ∷ 0 ∷ A) ≡ 15)
    × (check_udp 1 (0 ∷ 4 ∷ 0 ∷ 0 ∷ A) ≡ 15) × (check_udp 1 (0 ∷ 7 ∷ 0 ∷ 0 ∷ A) ≡ 15) × (check_udp 1 (0 ∷ 11 ∷ 0 ∷ 0 ∷ A) ≡ 15)
    × (check_udp 1 (0 ∷ 15 ∷ 0 ∷ 0 ∷ A) ≡ 15) × (check_udp 1 (0 ∷ 0x13 ∷ 0 ∷ 0 ∷ A) ≡ 0)
unfolding check check_refusals rest wanted body_at any sum_to
versions = (refl, refl, refl, refl, refl, refl, refl, refl)

version-judged : (check_udp 1 (0x80 ∷ 3 ∷ 0 ∷ 0 ∷ A) ≡ 15) × (check_udp 1 (0xC8 ∷ 2 ∷ 0 ∷ 0 ∷ A) ≡ 15)
    × (check_udp 1 (0 ∷ 0xF3 ∷ 0 ∷ 0 ∷ A) ≡ 0)
    × (check_udp 1 (0x7F ∷ 0x53 ∷ 0xFF ∷ 0xFF ∷ A) ≡ 0) × (check_udp 1 (0x7F ∷ 0x32 ∷ 3 ∷ 3 ∷ A) ≡ 15)
unfolding check check_refusals rest wanted body_at any sum_to
version-judged = (refl, refl, refl, refl, refl)

-- 2 and 3 before 15, 15 before 4 and before 6. Over IP there are no such bytes: an ID that starts like a control message is an ID.
version-in_order : (check_udp 1 (0x80 ∷ 2 ∷ 0 ∷ 0 ∷ take 7 A) ≡ 2) × (check_udp 1 (0x80 ∷ 3 ∷ 0 ∷ 0 ∷ A ++ replicate 4081 0) ≡ 3)
    × (check_udp 1 (0x80 ∷ 3 ∷ 0 ∷ 0 ∷ set (set A 2 0) 3 0) ≡ 15) × (check_udp 1 (0 ∷ 2 ∷ 0 ∷ 0 ∷ set A 4 0xC1) ≡ 15)
    × (check_ip 1 (set (set A 0 0xC8) 1 2) ≡ 0)
unfolding check check_refusals rest wanted body_at any sum_to
version-in_order = (refl, refl, refl, refl, refl)

-- The transports by their numbers. 24: one that there is not, before all else, and a kind that there is not
transports-judged : (check 1 (packet_by 1 A) ≡ 0) × (check 1 (packet_by 2 (0 ∷ 3 ∷ 0 ∷ 0 ∷ A)) ≡ 0) × (check 1 (packet_by 0 A) ≡ 24)
    × (check 1 (packet_by 3 A) ≡ 24) × (check 1 (packet_by 4 A) ≡ 24) × (check 1 (packet_by 5 (0 ∷ 3 ∷ 0 ∷ 0 ∷ A)) ≡ 24)
    × (check 1 (packet_by 3 []) ≡ 24) × (check 1 (packet_by 257 A) ≡ 24) × (check 1 (packet_by 258 (0 ∷ 3 ∷ 0 ∷ 0 ∷ A)) ≡ 24)
    × (check 1 (packet_by 65537 A) ≡ 24) × (check 0 (packet_by 0 A) ≡ 24) × (check_udp 3 [] ≡ 24)
unfolding check check_refusals rest wanted body_at any sum_to
transports-judged = (refl, refl, refl, refl, refl, refl, refl, refl, refl, refl, refl, refl)

-- the longest packet, 4,100 bytes over IP and 4,104 over UDP, with one segment
abbrev longest : List ℕ
longest = 0 ∷ 0 ∷ 1 ∷ 1 ∷ 0x41 ∷ 1 ∷ 0 ∷ 0 ∷ 0xCF ∷ 0xFA ∷ replicate 4090 7

longest_passes : (check_ip 1 longest ≡ 0) × (check_udp 1 (udp_front ++ longest) ≡ 0) × (check_ip 1 (udp_front ++ longest) ≡ 3)
unfolding check check_refusals rest wanted body_at any sum_to
longest_passes = (refl, refl, refl)

-- A packet over IP given as one over UDP has no version 3 where it should be. One over UDP given as one over IP has the ID 0x30000, and its
-- own ID is read as the header: here it announces no segment.
mistaken : (check_udp 1 A ≡ 15) × (check_ip 1 (udp_front ++ A) ≡ 9) × (session_id (ip (udp_front ++ A)) ≡ 0x30000)
unfolding check check_refusals rest wanted body_at any sum_to
mistaken = (refl, refl, refl)

-- Segments: where one lies is counted from the packet's first byte. Only PSP packets by a transport that there is have any.
udp-segments : (segment_extent 1 (in_udp A) 1 ≡ record { start = 22; size = 2 }) × (segment_given 1 (in_udp A) 1 ≡ 0x21 ∷ 0x22 ∷ [])
    × (segment_cause 1 (in_udp A) 1 ≡ 0) × (segment_cause 1 (in_udp A) 2 ≡ 14) × (segment_cause 1 (udp (0x80 ∷ 3 ∷ 0 ∷ 0 ∷ A)) 0 ≡ 15)
    × (segment_extent 1 (udp (0x80 ∷ 3 ∷ 0 ∷ 0 ∷ A)) 0 ≡ record { start = 0; size = 0 })
unfolding segment_given segment_extent segment_cause cause_refusals check_refusals body_at part rest wanted any sum_to
udp-segments = (refl, refl, refl, refl, refl, refl)

no_segments : (segment_cause 2 (ip D) 0 ≡ 24) × (segment_cause 0 (ip A) 0 ≡ 24) × (segment_cause 3 (ip A) 0 ≡ 24)
    × (segment_cause 1 (packet_by 0 A) 0 ≡ 24) × (segment_given 2 (ip A) 0 ≡ []) × (segment_given 1 (packet_by 3 A) 0 ≡ [])
unfolding segment_given segment_extent segment_cause cause_refusals check_refusals body_at part rest wanted any sum_to
no_segments = (refl, refl, refl, refl, refl, refl)
