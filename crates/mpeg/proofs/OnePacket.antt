-- One packet: each way out of the reader's `without_flag`, `with_flag` and `read_packet`, from what the code has tested and read. The code
-- keeps numbers for a `Reading` s (`standing_of`), and each law says that its answer is the numbers of what the definition makes of s.
use Prim.Native.Nat.{ℕ, ◌+◌, ◌*◌, ◌%◌, ◌≤◌, ◌<◌}
use mathlib.Core.Path.{◌≡◌, refl, sym, ap, ◌∙◌}
use mathlib.Core.Bool.{Bool, true, false, not, cond, ◌&&◌, ◌||◌, and-false, true≢false}
use mathlib.Core.Logic.{⊎_elim}
use mathlib.Core.List.{List, [], ◌∷◌, ◌++◌, append-nil}
use native.Mathlib.Omega.{arith}
use lib.Dec.{eqb, ltb, leb}
use lib.ListN.{length, length-append}
use borrow.Author.Tests.{eqb-true, eqb-false, ltb-true, ltb-false, le-leb, lt-leb, not-true, not-false}
use Rattle.octets.specs.Bytes.{byte_at}
use Rattle.octets.specs.Stretch.{part, rest, joined}
use Rattle.octets.specs.Tests.{none, same}
use Rattle.octets.proofs.Counts.{true-or-false, or-false-left, or-false-right, or_true_right}
use Rattle.octets.proofs.Elements.{length-one_more}
use Rattle.octets.proofs.Stretches.{part-rest_front, rest-rest, joined-append, length-joined-one_more}
use Rattle.octets.proofs.Tests.{none-length, none-some}
use Rattle.flow.specs.Flow.{longest}
use Rattle.ts.specs.Packet.{head_length, sync_byte, payload_only, count_of, next_count, header, all_fill, null_packet}
use Rattle.mpeg.specs.declared.reader.Front.{Front}
use Rattle.mpeg.specs.Packet.{pointed_length, frames_pid}
use Rattle.mpeg.specs.Frame.{beside_field, said_length, starts_well, good, may_begin}
use Rattle.mpeg.specs.Read.{Reading, Found, found, unsound, count_fits, has_header, without_flag}
use Rattle.mpeg.specs.Read.{pointer, pointed, ended, found_in, ends_well, ended_frames, with_flag, read_packet}
use Rattle.mpeg.specs.Inside.Standing.{Told, front_of, standing_of, spoilt}
use Rattle.mpeg.specs.Inside.Fronts.{headed, standing_with}
use Rattle.mpeg.proofs.Fronts.{says_of}
use Rattle.mpeg.proofs.Frames.{starts_append, begin_says, good_is, not-good_says, not-good_over, may_begin_is, not-begin_long}
use Rattle.mpeg.proofs.Frames.{not-begin-whole}
use Rattle.mpeg.proofs.Ways.{longer, after_finished, after_went_on, read_null, read_misfit, read_without, read_with, read_neither}
use Rattle.mpeg.proofs.Ways.{without_none, without_good, without_more, without_bad, flag_passes, with_fails}

-- five numbers are those of a reading
pub standing_is : (s : Reading) {expected frames bytes : ℕ} {front : Front} → s.sound ≡ true → expected ≡ s.expected →
    front ≡ front_of s.begun →
    frames ≡ length s.frames → bytes ≡ length (joined s.frames) →
    ◌≡◌ {A = Told} (record { sound = true; expected = expected; begun = front; frames = frames; bytes = bytes }) (standing_of s)
standing_is s a b c d e = rw (a, b, c, d, e) refl

-- a frame goes on as it began
starts_on : (begun more : List ℕ) → may_begin begun ≡ true → 0 < length begun → starts_well (begun ++ more) ≡ true
starts_on begun more may some = starts_append begun more some ∙ (begin_says begun may).starts

-- Without the flag.
pub flagless_none : {standing r : Told} (packet : List ℕ) (s : Reading) → standing ≡ standing_of s → standing.begun.size ≡ 0 →
    r ≡ spoilt →
    r ≡ standing_of (without_flag s packet)
flagless_none packet s is none-begun spoils =
    let empty = none-length s.begun (sym (ap (λ (st : Told). st.begun.size) is) ∙ none-begun) in
    spoils ∙ ap standing_of (sym (without_none s packet empty))

module _ (packet : List ℕ) {standing : Told} (s : Reading)
    (may : may_begin s.begun ≡ true) (is : standing ≡ standing_of s) (some : standing.begun.size ≡ 0 → ⊥) where
  begun-some : 0 < length s.begun
  begun-some = omega (arith, some, ap (λ (st : Told). st.begun.size) is)

  begun-not : none s.begun ≡ false
  begun-not = none-some s.begun begun-some

  module _ {front : Front} (is_front : front ≡ front_of (s.begun ++ rest packet head_length)) {said : ℕ}
      (reads : said ≡ front.high * 256 + front.low + beside_field) where
    abbrev frame : List ℕ
    frame = s.begun ++ rest packet head_length

    frame_is : longer s packet ≡ frame
    frame_is = refl

    flagless_says : said ≡ said_length frame
    flagless_says = says_of frame is_front reads

    flagless_size : front.size ≡ length frame
    flagless_size = ap (λ (f : Front). f.size) is_front

    flagless_starts : starts_well frame ≡ true
    flagless_starts = starts_on s.begun (rest packet head_length) may begun-some

    -- longer than the longest, or than it says
    pub flagless_spoilt : {r : Told} → (ltb longest said || ltb said front.size) ≡ true → r ≡ spoilt →
        r ≡ standing_of (without_flag s packet)
    flagless_spoilt {r} over spoils =
        let says : said ≡ said_length frame = flagless_says in
        let size : front.size ≡ length frame = flagless_size in
        let bad : (good frame ≡ false) × (may_begin frame ≡ false) =
        ⊎_elim
        (λ (t : ltb longest said ≡ true).
        let k : longest < said = ltb-true _ _ t in
        (not-good_over frame (omega arith), not-begin_long frame (omega arith)))
        (λ (t : ltb longest said ≡ false).
        let k : said < front.size = ltb-true _ _ (or_true_right (ltb longest said) (ltb said front.size) over t) in
        (not-good_says frame (λ e. omega arith), not-begin-whole frame (omega arith)))
        (true-or-false (ltb longest said)) in
        spoils ∙ ap standing_of (sym (without_bad s packet begun-not (rw frame_is bad.0) (rw frame_is bad.1)))

    module _ (not-over : (ltb longest said || ltb said front.size) ≡ false) {expected : ℕ}
        (counted : expected ≡ next_count (count_of packet)) where
      short : said ≤ longest
      short = ltb-false _ _ (or-false-left (ltb longest said) (ltb said front.size) not-over)

      -- the frame ends with the packet
      pub flagless_ended : {empty : Front} → said ≡ front.size → empty ≡ front_of [] →
          ◌≡◌ {A = Told} (record {
            sound = true;
            expected = expected;
            begun = empty;
            frames = standing.frames + 1;
            bytes = standing.bytes + said;
          })
          (standing_of (without_flag s packet))
      flagless_ended {empty} whole is-empty =
          let says : said ≡ said_length frame = flagless_says in
          let size : front.size ≡ length frame = flagless_size in
          let few : said ≤ longest = short in
          let well : good frame ≡ true = good_is frame (omega arith) (omega arith) flagless_starts in
          let long : said ≡ length frame = omega arith in
          let frames_are : standing.frames ≡ length s.frames = ap (λ (st : Told). st.frames) is in
          let bytes_are : standing.bytes ≡ length (joined s.frames) = ap (λ (st : Told). st.bytes) is in
          let next : List ℕ → Reading =
          λ l. record {
            sound = true;
            expected = next_count (count_of packet);
            begun = [];
            frames = s.frames ++ (l ∷ []);
          } in
          let over : after_finished s packet ≡ next frame = ap next frame_is in
          standing_is (next frame)
          refl counted is-empty
          (ap (λ (n : ℕ). n + 1) frames_are ∙ sym (length-one_more s.frames frame))
          (rw (bytes_are, long) (sym (length-joined-one_more s.frames frame)))
          ∙ ap standing_of (sym (without_good s packet begun-not (rw frame_is well) ∙ over))

      -- more of it is to come
      pub flagless_more : (said ≡ front.size → ⊥) →
          ◌≡◌ {A = Told} (record {
            sound = true;
            expected = expected;
            begun = front;
            frames = standing.frames;
            bytes = standing.bytes;
          })
          (standing_of (without_flag s packet))
      flagless_more part-only =
          let says : said ≡ said_length frame = flagless_says in
          let size : front.size ≡ length frame = flagless_size in
          let few : said ≤ longest = short in
          let k : front.size ≤ said = ltb-false _ _ (or-false-right (ltb longest said) (ltb said front.size) not-over) in
          let less : length frame < said_length frame = omega (arith, part-only) in
          let frames_are : standing.frames ≡ length s.frames = ap (λ (st : Told). st.frames) is in
          let bytes_are : standing.bytes ≡ length (joined s.frames) = ap (λ (st : Told). st.bytes) is in
          let next : List ℕ → Reading =
          λ l. record { sound = true; expected = next_count (count_of packet); begun = l; frames = s.frames } in
          let on : after_went_on s packet ≡ next frame = ap next frame_is in
          standing_is (next frame) refl counted is_front frames_are bytes_are
          ∙ ap standing_of (sym (without_more s packet begun-not (rw frame_is (not-good_says frame (λ e. omega arith)))
          (rw frame_is (may_begin_is frame less (omega arith) flagless_starts)) ∙ on))

-- With the flag.
flag_spoilt : (s : Reading) (packet : List ℕ) → flag_passes s packet ≡ false → spoilt ≡ standing_of (with_flag s packet)
flag_spoilt s packet e = ap standing_of (sym (with_fails s packet e))

by_found : (expected : ℕ) (before : List (List ℕ)) (f : Found) (t : Bool) →
    standing_of (cond t (record { sound = true; expected = expected; begun = f.open_end; frames = before ++ f.whole }) unsound)
    ≡ cond t
    (record {
      sound = true;
      expected = expected;
      begun = front_of f.open_end;
      frames = length before + length f.whole;
      bytes = length (joined before) + length (joined f.whole);
    })
    spoilt
by_found expected before f true =
    let all : length (joined (before ++ f.whole)) ≡ length (joined before) + length (joined f.whole) =
    ap length (joined-append before f.whole) ∙ length-append (joined before) (joined f.whole) in
    rw (length-append before f.whole, all) refl
by_found expected before f false = refl

flag_found : (s : Reading) (packet : List ℕ) (before : List (List ℕ)) (f : Found) → leb (pointer packet) pointed_length ≡ true →
    ends_well s packet ≡ true →
    s.frames ++ ended_frames s packet ≡ before → found_in packet ≡ f →
    standing_with (next_count (count_of packet)) (length before) (length (joined before)) f ≡ standing_of (with_flag s packet)
unfolding with_flag standing_with
flag_found s packet before f a b c d =
    rw (a, b, c, d) (sym (by_found (next_count (count_of packet)) before f f.well))

module _ (packet : List ℕ) {pointed-at : ℕ} (read : pointed-at ≡ byte_at packet head_length) where
  pointer_is : pointer packet ≡ pointed-at
  pointer_is = sym read

  -- the pointer points past the packet's end
  pub flag_outside : {r : Told} (s : Reading) → pointed_length < pointed-at → r ≡ spoilt →
      r ≡ standing_of (with_flag s packet)
  flag_outside s h spoils =
      let over : leb (pointer packet) pointed_length ≡ false = ap (λ (n : ℕ). leb n pointed_length) pointer_is ∙ lt-leb _ _ h in
      spoils ∙ flag_spoilt s packet (ap (λ (t : Bool). t && (ends_well s packet && (found_in packet).well)) over)

  module _ (within : pointed-at ≤ pointed_length) where
    pointer-fits : leb (pointer packet) pointed_length ≡ true
    pointer-fits = ap (λ (n : ℕ). leb n pointed_length) pointer_is ∙ le-leb _ _ within

    found_is : found_in packet ≡ found pointed_length (rest packet (head_length + 1 + pointed-at))
    found_is =
        ap (found pointed_length) (rest-rest packet (head_length + 1) (pointer packet))
        ∙ ap (λ (n : ℕ). found pointed_length (rest packet (head_length + 1 + n))) pointer_is

    ended_is : (s : Reading) → ended s packet ≡ s.begun ++ part packet (head_length + 1) pointed-at
    ended_is s =
        ap (λ (l : List ℕ). s.begun ++ l) (part-rest_front packet (head_length + 1) (pointer packet))
        ∙ ap (λ (n : ℕ). s.begun ++ part packet (head_length + 1) n) pointer_is

    spoilt_end : (s : Reading) → ends_well s packet ≡ false →
        spoilt ≡ standing_of (with_flag s packet)
    spoilt_end s e =
        flag_spoilt s packet
        (ap (λ (t : Bool). leb (pointer packet) pointed_length && (t && (found_in packet).well)) e
        ∙ and-false (leb (pointer packet) pointed_length))

    module _ {standing : Told} (s : Reading) (is : standing ≡ standing_of s) {expected : ℕ}
        (counted : expected ≡ next_count (count_of packet)) where
      frames_are : standing.frames ≡ length s.frames
      frames_are = ap (λ (st : Told). st.frames) is

      bytes_are : standing.bytes ≡ length (joined s.frames)
      bytes_are = ap (λ (st : Told). st.bytes) is

      size_is : standing.begun.size ≡ length s.begun
      size_is = ap (λ (st : Told). st.begun.size) is

      -- no frame has begun
      module _ (none-begun : standing.begun.size ≡ 0) {filled : Bool}
          (all : filled ≡ all_fill (rest packet (head_length + 1))) where
        ends-none : ends_well s packet ≡ (eqb pointed-at 0 && not filled)
        ends-none =
            let same_fill : all_fill (pointed packet) ≡ filled = sym all in
            rw (none-length s.begun (sym size_is ∙ none-begun), pointer_is, same_fill) refl

        pub flag_none-spoilt : {r : Told} → (not (eqb pointed-at 0) || filled) ≡ true → r ≡ spoilt →
            r ≡ standing_of (with_flag s packet)
        flag_none-spoilt over spoils = spoils ∙ spoilt_end s (ends-none ∙ contrary (eqb pointed-at 0) filled over)
          where
            contrary : (a b : Bool) → (not a || b) ≡ true → (a && not b) ≡ false
            contrary true true h = refl
            contrary true false h = absurd (true≢false (sym h))
            contrary false b h = refl

        pub flag_none-found : {r : Told} → (not (eqb pointed-at 0) || filled) ≡ false →
            r ≡ standing_with expected standing.frames standing.bytes (found pointed_length (rest packet (head_length + 1))) →
            r ≡ standing_of (with_flag s packet)
        flag_none-found ready is_found =
            let zero-pointer : pointed-at ≡ 0 = eqb-true _ _ (not-false _ (or-false-left (not (eqb pointed-at 0)) filled ready)) in
            let start : head_length + 1 + pointed-at ≡ head_length + 1 = omega arith in
            let no-ended : s.frames ++ ended_frames s packet ≡ s.frames =
            ap (λ (t : Bool). s.frames ++ cond t [] (ended s packet ∷ [])) (none-length s.begun (sym size_is ∙ none-begun))
            ∙ append-nil s.frames in
            is_found
            ∙ rw (counted, frames_are, bytes_are)
            (flag_found s packet s.frames (found pointed_length (rest packet (head_length + 1))) pointer-fits
            (ends-none ∙ agree (eqb pointed-at 0) filled ready) no-ended
            (found_is ∙ ap (λ (i : ℕ). found pointed_length (rest packet i)) start))
          where
            agree : (a b : Bool) → (not a || b) ≡ false → (a && not b) ≡ true
            agree true true h = absurd (true≢false h)
            agree true false h = refl
            agree false b h = absurd (true≢false h)

      -- a frame has begun
      module _ (may : may_begin s.begun ≡ true) (some : standing.begun.size ≡ 0 → ⊥) {front : Front}
          (is_front : front ≡ front_of (s.begun ++ part packet (head_length + 1) pointed-at)) {said : ℕ}
          (reads : said ≡ front.high * 256 + front.low + beside_field) where
        begun-there : 0 < length s.begun
        begun-there = omega (arith, some, size_is)

        none-not : none s.begun ≡ false
        none-not = none-some s.begun begun-there

        ends_some : ends_well s packet ≡ good (s.begun ++ part packet (head_length + 1) pointed-at)
        ends_some = rw (none-not) (ap good (ended_is s))

        ended_says : said ≡ said_length (s.begun ++ part packet (head_length + 1) pointed-at)
        ended_says = says_of (s.begun ++ part packet (head_length + 1) pointed-at) is_front reads

        ended-size : front.size ≡ length (s.begun ++ part packet (head_length + 1) pointed-at)
        ended-size = ap (λ (f : Front). f.size) is_front

        pub flag_some-spoilt : {r : Told} → (ltb longest said || not (eqb said front.size)) ≡ true → r ≡ spoilt →
            r ≡ standing_of (with_flag s packet)
        flag_some-spoilt over spoils =
            let frame = s.begun ++ part packet (head_length + 1) pointed-at in
            let says : said ≡ said_length frame = ended_says in
            let size : front.size ≡ length frame = ended-size in
            let bad : good frame ≡ false =
            ⊎_elim
            (λ (t : ltb longest said ≡ true). let k : longest < said = ltb-true _ _ t in not-good_over frame (omega arith))
            (λ (t : ltb longest said ≡ false).
            not-good_says frame
            (λ e. eqb-false said front.size (not-true _ (or_true_right (ltb longest said) (not (eqb said front.size)) over t))
            (omega arith)))
            (true-or-false (ltb longest said)) in
            spoils ∙ spoilt_end s (ends_some ∙ bad)

        pub flag_some-found : {r : Told} → (ltb longest said || not (eqb said front.size)) ≡ false →
            r ≡ standing_with expected (standing.frames + 1) (standing.bytes + said)
            (found pointed_length (rest packet (head_length + 1 + pointed-at))) →
            r ≡ standing_of (with_flag s packet)
        flag_some-found ready is_found =
            let frame = s.begun ++ part packet (head_length + 1) pointed-at in
            let says : said ≡ said_length frame = ended_says in
            let size : front.size ≡ length frame = ended-size in
            let short : said ≤ longest = ltb-false _ _ (or-false-left (ltb longest said) (not (eqb said front.size)) ready) in
            let whole : said ≡ front.size =
            eqb-true _ _ (not-false _ (or-false-right (ltb longest said) (not (eqb said front.size)) ready)) in
            let long : said ≡ length frame = omega arith in
            let well : good frame ≡ true = good_is frame (omega arith) (omega arith) (starts_on s.begun _ may begun-there) in
            let one_ended : s.frames ++ ended_frames s packet ≡ s.frames ++ (frame ∷ []) =
            ap (λ (t : Bool). s.frames ++ cond t [] (ended s packet ∷ [])) none-not
            ∙ ap (λ (l : List ℕ). s.frames ++ (l ∷ [])) (ended_is s) in
            let count : standing.frames + 1 ≡ length (s.frames ++ (frame ∷ [])) =
            ap (λ (n : ℕ). n + 1) frames_are ∙ sym (length-one_more s.frames frame) in
            let bytes : standing.bytes + said ≡ length (joined (s.frames ++ (frame ∷ []))) =
            rw (bytes_are, long) (sym (length-joined-one_more s.frames frame)) in
            is_found
            ∙ rw (counted, count, bytes)
            (flag_found s packet (s.frames ++ (frame ∷ [])) (found pointed_length (rest packet (head_length + 1 + pointed-at)))
            pointer-fits
            (ends_some ∙ well) one_ended found_is)

-- One packet.
header_is : (starts : Bool) (second : ℕ) (packet : List ℕ) →
    header starts frames_pid (count_of packet) ≡ sync_byte ∷ second ∷ 0xFE ∷ (payload_only + count_of packet % 16) ∷ [] →
    has_header starts packet ≡ same (part packet 0 head_length) (sync_byte ∷ second ∷ 0xFE ∷ (payload_only + count_of packet) ∷ [])
header_is starts second packet e =
    let once : count_of packet % 16 ≡ count_of packet = omega arith in
    ap (same (part packet 0 head_length)) (e ∙ ap (λ (n : ℕ). sync_byte ∷ second ∷ 0xFE ∷ (payload_only + n) ∷ []) once)

headed_without : (expected : ℕ) (packet : List ℕ) → headed 0x1F expected packet ≡ (has_header false packet && count_fits expected packet)
headed_without expected packet = ap (λ (t : Bool). t && count_fits expected packet) (sym (header_is false 0x1F packet refl))

headed_with : (expected : ℕ) (packet : List ℕ) → headed 0x5F expected packet ≡ (has_header true packet && count_fits expected packet)
headed_with expected packet = ap (λ (t : Bool). t && count_fits expected packet) (sym (header_is true 0x5F packet refl))

-- the definition's tests in the code's order
packet_data : (s : Reading) (packet : List ℕ) (fits without with : Bool) → s.sound ≡ true → same packet null_packet ≡ false →
    count_fits s.expected packet ≡ fits → has_header false packet ≡ without → has_header true packet ≡ with →
    read_packet s packet
    ≡ cond (without && fits) (without_flag s packet) (cond (with && fits) (with_flag s packet) unsound)
packet_data s packet true true with a b c d e = read_without s packet a b c d
packet_data s packet true false true a b c d e = read_with s packet a b c d e
packet_data s packet true false false a b c d e = read_neither s packet a b c d e
packet_data s packet false true with a b c d e = rw (and-false with) (read_misfit s packet a b c)
packet_data s packet false false with a b c d e = rw (and-false with) (read_misfit s packet a b c)

module _ {standing : Told} (sound : standing.sound ≡ true) (packet : List ℕ) {null : Bool} (is-null : null ≡ same packet null_packet)
    (s : Reading) (is : standing ≡ standing_of s) where
  s-sound : s.sound ≡ true
  s-sound = sym (ap (λ (st : Told). st.sound) is) ∙ sound

  s-size : standing.begun.size ≡ length s.begun
  s-size = ap (λ (st : Told). st.begun.size) is

  pub null_inside : {r : Told} → null ≡ true → (standing.begun.size ≡ 0 → ⊥) → r ≡ spoilt → r ≡ standing_of (read_packet s packet)
  null_inside t some spoils =
      spoils ∙ ap standing_of (sym (read_null s packet s-sound (sym is-null ∙ t)
      ∙ ap (λ (b : Bool). cond b s unsound) (none-some s.begun (omega (arith, some, s-size)))))

  pub null_between : null ≡ true → standing.begun.size ≡ 0 → standing ≡ standing_of (read_packet s packet)
  null_between t nothing =
      is ∙ ap standing_of (sym (read_null s packet s-sound (sym is-null ∙ t)
      ∙ ap (λ (b : Bool). cond b s unsound) (none-length s.begun (sym s-size ∙ nothing))))

  module _ (not_null : null ≡ false) {without : Bool} (is-without : without ≡ headed 0x1F standing.expected packet) where
    s-expected : standing.expected ≡ s.expected
    s-expected = ap (λ (st : Told). st.expected) is

    tests_without : without ≡ (has_header false packet && count_fits s.expected packet)
    tests_without = is-without ∙ ap (λ (n : ℕ). headed 0x1F n packet) s-expected ∙ headed_without s.expected packet

    as_data : read_packet s packet
        ≡ cond (has_header false packet && count_fits s.expected packet) (without_flag s packet)
        (cond (has_header true packet && count_fits s.expected packet) (with_flag s packet) unsound)
    as_data = packet_data s packet _ _ _ s-sound (sym is-null ∙ not_null) refl refl refl

    pub data_without : {r : Told} → without ≡ true → r ≡ standing_of (without_flag s packet) → r ≡ standing_of (read_packet s packet)
    data_without t e =
        e ∙ ap standing_of (sym (as_data
        ∙ ap (λ (b : Bool). cond b (without_flag s packet)
        (cond (has_header true packet && count_fits s.expected packet) (with_flag s packet) unsound))
        (sym tests_without ∙ t)))

    module _ (not_without : without ≡ false) {with : Bool} (is-with : with ≡ headed 0x5F standing.expected packet) where
      tests_with : with ≡ (has_header true packet && count_fits s.expected packet)
      tests_with = is-with ∙ ap (λ (n : ℕ). headed 0x5F n packet) s-expected ∙ headed_with s.expected packet

      as_flagged : read_packet s packet ≡ cond with (with_flag s packet) unsound
      as_flagged =
          as_data
          ∙ ap (λ (b : Bool). cond b (without_flag s packet)
          (cond (has_header true packet && count_fits s.expected packet) (with_flag s packet) unsound))
          (sym tests_without ∙ not_without)
          ∙ ap (λ (b : Bool). cond b (with_flag s packet) unsound) (sym tests_with)

      pub data_with : {r : Told} → with ≡ true → r ≡ standing_of (with_flag s packet) → r ≡ standing_of (read_packet s packet)
      data_with t e = e ∙ ap standing_of (sym (as_flagged ∙ ap (λ (b : Bool). cond b (with_flag s packet) unsound) t))

      pub data_other : {r : Told} → with ≡ false → r ≡ spoilt → r ≡ standing_of (read_packet s packet)
      data_other t spoils = spoils ∙ ap standing_of (sym (as_flagged ∙ ap (λ (b : Bool). cond b (with_flag s packet) unsound) t))
