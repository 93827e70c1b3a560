-- Packets that no run of the writer gives, one for each thing that a reader might let pass, and beside some of them the nearest that a run
-- does give. Each is computed: they show what `reading` refuses, and of no other bytes.
use Prim.Native.Nat.{ℕ}
use mathlib.Core.Path.{◌≡◌, refl}
use mathlib.Core.Bool.{Bool, true, false}
use mathlib.Core.List.{List, [], ◌∷◌, ◌++◌}
use lib.ListN.{replicate}
use Rattle.octets.specs.Stretch.{part, rest}
use Rattle.octets.specs.Count.{up_to}
use Rattle.octets.specs.Tests.{none, same}
use Rattle.ts.specs.Packet.{null_pid, header, fill_byte, all_fill, null_packet}
use Rattle.mpeg.specs.Packet.{frames_pid}
use Rattle.mpeg.specs.Frame.{good, may_begin}
use Rattle.mpeg.specs.Read.{found, without_flag, with_flag, read_packet, read_from, packets_in, reading}

abbrev fill : ℕ → List ℕ
fill n = replicate n fill_byte

-- whether these bytes are taken
abbrev taken : List ℕ → Bool
taken bytes = (reading bytes).sound

-- the first packet of a frame, with the pointer 0, and one behind it with this pointer
abbrev starting : List ℕ → List ℕ
starting bytes = header true frames_pid 0 ++ (0 ∷ bytes)

abbrev ending : ℕ → List ℕ → List ℕ
ending pointer bytes = header true frames_pid 1 ++ (pointer ∷ bytes)

-- the null packet is taken; not 187 bytes of it, and not with another byte in it
null_taken : taken (header false null_pid 0 ++ fill 184) ≡ true
unfolding reading packets_in read_from read_packet up_to part rest same null_packet none
null_taken = refl

short-refused : taken (header false null_pid 0 ++ fill 183) ≡ false
unfolding reading
short-refused = refl

other_null_refused : taken (header false null_pid 0 ++ (0 ∷ fill 183)) ≡ false
unfolding reading packets_in read_from read_packet up_to part rest same null_packet none
other_null_refused = refl

-- a packet of 0xFF alone, and 0xFF before a frame
fill_refused : taken (starting (fill 183)) ≡ false
unfolding reading packets_in read_from read_packet up_to part rest same null_packet none with_flag found all_fill good may_begin
fill_refused = refl

late_start-refused : taken (starting (255 ∷ 1 ∷ 0 ∷ 0 ∷ 0 ∷ 0 ∷ 0 ∷ fill 176)) ≡ false
unfolding reading packets_in read_from read_packet up_to part rest same null_packet none with_flag found all_fill good may_begin
late_start-refused = refl

prompt_start-taken : taken (starting (1 ∷ 0 ∷ 0 ∷ 0 ∷ 0 ∷ 0 ∷ fill 177)) ≡ true
unfolding reading packets_in read_from read_packet up_to part rest same null_packet none with_flag found all_fill good may_begin
prompt_start-taken = refl

-- a first packet without the flag: no frame has begun
no_flag_refused : taken (header false frames_pid 0 ++ replicate 184 0) ≡ false
unfolding reading packets_in read_from read_packet up_to part rest same null_packet none without_flag good may_begin
no_flag_refused = refl

-- A frame of 366 bytes has 183 of them in each of two packets. The pointer of the second is 183; with 184 or more, which point behind the
-- packet, the same bytes end the frame, but no writer writes them.
abbrev front : List ℕ
front = starting (1 ∷ 0 ∷ 1 ∷ 104 ∷ replicate 179 0)

pointer-taken : taken (front ++ ending 183 (replicate 183 0)) ≡ true
unfolding reading packets_in read_from read_packet up_to part rest same null_packet none with_flag found all_fill good may_begin
pointer-taken = refl

pointer-refused : taken (front ++ ending 184 (replicate 183 0)) ≡ false
unfolding reading packets_in read_from read_packet up_to part rest same null_packet none with_flag found all_fill good may_begin
pointer-refused = refl

far_pointer-refused : taken (front ++ ending 255 (replicate 183 0)) ≡ false
unfolding reading packets_in read_from read_packet up_to part rest same null_packet none with_flag found all_fill good may_begin
far_pointer-refused = refl

-- A frame of 180 bytes, and three bytes of the next. With 8 as its byte 2 that one has at least 2,054 bytes, which is too many; with 7 it
-- may end.
abbrev before : List ℕ
before = 1 ∷ 0 ∷ 0 ∷ 174 ∷ replicate 176 0

long_tail_refused : taken (starting (before ++ (1 ∷ 0 ∷ 8 ∷ []))) ≡ false
unfolding reading packets_in read_from read_packet up_to part rest same null_packet none with_flag found all_fill good may_begin
long_tail_refused = refl

tail_taken : taken (starting (before ++ (1 ∷ 0 ∷ 7 ∷ []))) ≡ true
unfolding reading packets_in read_from read_packet up_to part rest same null_packet none with_flag found all_fill good may_begin
tail_taken = refl
