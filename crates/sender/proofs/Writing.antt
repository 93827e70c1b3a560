-- How a packet comes about in the output: the entries are put one behind the other while the frames are cut (`Writing`, the loop's
-- invariant, with a begin, a turn and an end), then the bodies behind them in one put, then the header before them.
use Prim.Native.Nat.{ℕ, suc, ◌+◌, ◌-◌, ◌*◌, ◌<◌, ◌≤◌}
use mathlib.Core.Path.{◌≡◌, refl, sym, ap, ◌∙◌}
use mathlib.Core.Bool.{Bool, true, false, ◌&&◌}
use mathlib.Core.List.{List, [], ◌∷◌, ◌++◌, map}
use native.Mathlib.Omega.{arith}
use lib.Dec.{ltb}
use lib.ListN.{length, set, length-append}
use borrow.Author.Tests.{ltb-true, ltb-false}
use Rattle.refusal.proofs.Laws.{and_left, and_right}
use Rattle.octets.specs.Bytes.{two, four}
use Rattle.octets.specs.Stretch.{part, put, joined}
use Rattle.octets.proofs.Elements.{length-one_more}
use Rattle.octets.proofs.Stretches.{length-put, put-nil, put-put, put_more, set-set-put, joined-none, joined-map_more, length-joined-none}
use Rattle.packet.specs.Header.{id_length, shortest_packet, s_bit}
use Rattle.packet.specs.Segments.{Segment, entry_width}
use Rattle.sender.specs.declared.Position.{Position}
use Rattle.sender.specs.declared.Progress.{Progress}
use Rattle.sender.specs.Cut.{index_of, segment_from, Cut, goes_on, cut}
use Rattle.sender.specs.Packet.{entry_number, entry_of, body_of, header_of}
use Rattle.sender.specs.Send.{most_segments}
use Rattle.sender.specs.Inside.{entries_at, Placeable, size_for, placed_next, entry_for, with_entry, Ready, cut_of, Written}
use Rattle.sender.proofs.Reading.{length-entries}
use Rattle.sender.proofs.Positions.{Framed, framed, inside, place-within, carried-place, carried-bytes}
use Rattle.sender.proofs.Cutting.{Cutting, cutting_start, frames_remain, room-enough, offset_below, body_length, place_keeps}
use Rattle.sender.proofs.Cutting.{cut_turn, cut-stops, cut-none}

-- The header.
module _ (d : List ℕ) (session flow count number : ℕ) (long : shortest_packet ≤ length d) where
  abbrev with_id : List ℕ
  with_id = put d 0 (four session)

  abbrev with_marks : List ℕ
  with_marks = set (set with_id id_length (s_bit + flow)) (id_length + 1) count

  id_long : length with_id ≡ length d
  id_long = length-put d 0 (four session) (omega arith)

  marks_put : with_marks ≡ put d 0 (four session ++ ((s_bit + flow) ∷ count ∷ []))
  marks_put =
      set-set-put with_id id_length (s_bit + flow) count (omega (arith, id_long))
      ∙ put-put d 0 (four session) ((s_bit + flow) ∷ count ∷ []) (omega arith)

  header-put : put with_marks (id_length + 2) (two number) ≡ put d 0 (header_of session flow count number)
  header-put =
      ap (λ (l : List ℕ). put l (id_length + 2) (two number)) marks_put
      ∙ put-put d 0 (four session ++ ((s_bit + flow) ∷ count ∷ [])) (two number) (omega arith)

  -- `first` and `last` are what the code finds behind its two writes
  module _ (first : List ℕ) (id-written : first ≡ put d 0 (four session)) where
    module _ (last : List ℕ) (written : last
        ≡ put (set (set first id_length (s_bit + flow)) (id_length + 1) count) (id_length + 2) (two number)) where
      pub header-written : last ≡ put d 0 (header_of session flow count number)
      header-written =
          written ∙ ap (λ (l : List ℕ). put (set (set l id_length (s_bit + flow)) (id_length + 1) count) (id_length + 2) (two number))
          id-written ∙ header-put

-- The loop that cuts.
module _ (bytes lengths : List ℕ) (room : ℕ) (from : Position) (output : List ℕ)
    (ready : Ready (length bytes) lengths from room (length output)) where
  abbrev frames : Framed (length bytes) lengths
  frames = framed (length bytes) lengths ready.frames-sound

  abbrev cut_at : Progress → List Segment → Cut
  cut_at p segs = record { room = p.room; position = p.position; segments = segs }

  pub record Writing (output' : List ℕ) (p : Progress) : Type 0 where
    pub placed : List Segment
    pub cutting : Cutting entry_width bytes lengths frames room from (cut_at p placed)
    pub on_the_way : cut (most_segments - p.count) entry_width bytes lengths (cut_at p placed) ≡ cut_of bytes lengths room from
    pub counted : p.count ≡ length placed
    pub few : p.count ≤ most_segments
    pub bytes_counted : p.bytes ≡ length (joined (map body_of placed))
    pub output_now : output' ≡ put output entries_at (joined (map entry_of placed))

  pub writing_begin : Writing output (record { room = room; position = from; count = 0; bytes = 0 })
  writing_begin =
      record {
        placed = [];
        cutting = cutting_start entry_width bytes lengths frames room from (inside lengths from ready.position-inside);
        on_the_way = refl;
        counted = refl;
        few = omega arith;
        bytes_counted = sym length-joined-none;
        output_now = sym (ap (put output entries_at) joined-none ∙ put-nil output entries_at);
      }

  module _ {output' : List ℕ} {p : Progress} (w : Writing output' p) where
    entries_long : length (joined (map entry_of w.placed)) ≡ entry_width * p.count
    entries_long = length-entries w.placed ∙ ap (λ (n : ℕ). entry_width * n) (sym w.counted)

    in_room : p.room + entry_width * p.count + p.bytes ≡ room
    in_room = rw (w.counted, w.bytes_counted) w.cutting.in_room

    pub output_long : length output' ≡ length output
    output_long =
        ap length w.output_now
        ∙ length-put output entries_at (joined (map entry_of w.placed)) (omega (arith, entries_long, in_room, ready.output_long))

    -- another segment
    module _ (goes : (ltb p.count most_segments && goes_on entry_width lengths (cut_at p w.placed)) ≡ true) where
      pub one_more : p.count < most_segments
      one_more =
          ltb-true p.count most_segments (and_left (ltb p.count most_segments) (goes_on entry_width lengths (cut_at p w.placed)) goes)

      cut_goes : goes_on entry_width lengths (cut_at p w.placed) ≡ true
      cut_goes = and_right (ltb p.count most_segments) (goes_on entry_width lengths (cut_at p w.placed)) goes

      pub writing_placeable : Placeable output' lengths p
      writing_placeable =
          let remains = frames_remain entry_width bytes lengths frames room from (cut_at p w.placed) w.cutting cut_goes in
          let enough = room-enough entry_width bytes lengths frames room from (cut_at p w.placed) w.cutting cut_goes in
          record {
            few-frames = frames.few;
            frame_remains = remains;
            in_frame = offset_below entry_width bytes lengths frames room from (cut_at p w.placed) w.cutting cut_goes;
            not_long = frames.not_long p.position.frame remains;
            room_remains = enough;
            one_more = one_more;
            entry_inside = omega (arith, output_long, in_room, enough, ready.output_long);
            few_bytes = omega (arith, in_room, ready.small);
          }

      pub writing_turn : (q : Progress) (output'' : List ℕ) → q ≡ placed_next lengths p → output'' ≡ with_entry output' lengths p →
          Writing output'' q
      writing_turn q output'' e f =
          let c = cut_at p w.placed in
          let s = segment_from bytes lengths p.position (size_for lengths p) in
          let size = body_length entry_width bytes lengths frames room from c w.cutting cut_goes in
          let long = length-one_more w.placed s in
          let bodies = joined-map_more body_of w.placed s in
          let entries = joined-map_more entry_of w.placed s in
          let left : most_segments - p.count ≡ suc (most_segments - (p.count + 1)) = omega (arith, one_more) in
          let entry : entry_of s ≡ entry_for lengths p =
          ap (λ (n : ℕ). two (entry_number s.begins s.ends n)) size in
          let base : Writing output'' (placed_next lengths p) =
          record {
            placed = w.placed ++ (s ∷ []);
            cutting = place_keeps entry_width bytes lengths frames room from c w.cutting cut_goes;
            on_the_way =
                sym (cut_turn entry_width bytes lengths (most_segments - (p.count + 1)) c cut_goes)
                ∙ ap (λ (n : ℕ). cut n entry_width bytes lengths c) (sym left) ∙ w.on_the_way;
            counted = omega (arith, w.counted, long);
            few = omega (arith, one_more);
            bytes_counted =
                omega (arith, w.bytes_counted, ap length bodies, length-append (joined (map body_of w.placed)) s.body, size);
            output_now =
                put_more output entries_at (joined (map entry_of w.placed)) (entry_for lengths p) (entries_at + entry_width * p.count)
                (omega (arith, entries_long, in_room, ready.output_long)) w.output_now (omega (arith, entries_long)) f
                ∙ ap (λ (l : List ℕ). put output entries_at (joined (map entry_of w.placed) ++ l)) (sym entry)
                ∙ ap (put output entries_at) (sym entries);
          } in
          rw e base

    -- no more segments
    module _ (stops : (ltb p.count most_segments && goes_on entry_width lengths (cut_at p w.placed)) ≡ false) where
      whole : cut_of bytes lengths room from ≡ cut_at p w.placed
      whole = sym w.on_the_way ∙ by (ltb p.count most_segments) refl
        where
          by : (t : Bool) → ltb p.count most_segments ≡ t →
              cut (most_segments - p.count) entry_width bytes lengths (cut_at p w.placed) ≡ cut_at p w.placed
          by true e =
              cut-stops entry_width bytes lengths (most_segments - p.count) (cut_at p w.placed)
              (sym (ap (λ (b : Bool). b && goes_on entry_width lengths (cut_at p w.placed)) e) ∙ stops)
          by false e =
              let full : most_segments - p.count ≡ 0 = omega (arith, ltb-false p.count most_segments e) in
              ap (λ (n : ℕ). cut n entry_width bytes lengths (cut_at p w.placed)) full
              ∙ cut-none entry_width bytes lengths (cut_at p w.placed)

      -- the bodies are one stretch of the frames, ..
      pub bodies_from : index_of lengths from + p.bytes ≤ length bytes
      bodies_from =
          let carried = carried-place bytes lengths from p.position w.placed w.cutting.carried in
          omega (arith, w.bytes_counted, carried, place-within frames p.position w.cutting.inside)

      -- .. and there is room for them
      pub bodies_to : entries_at + entry_width * p.count + p.bytes ≤ length output'
      bodies_to = omega (arith, output_long, in_room, ready.output_long)

      pub writing_end : (index : ℕ) (output'' : List ℕ) → index ≡ index_of lengths from →
          output'' ≡ put output' (entries_at + entry_width * p.count) (part bytes index p.bytes) →
          Written (cut_of bytes lengths room from) output output'' room p
      writing_end index output'' i e =
          let E = joined (map entry_of w.placed) in
          let B = joined (map body_of w.placed) in
          let stretch : part bytes index p.bytes ≡ B =
          ap (λ (n : ℕ). part bytes n p.bytes) i ∙ ap (part bytes (index_of lengths from)) w.bytes_counted
          ∙ sym (carried-bytes bytes lengths from p.position w.placed w.cutting.carried) in
          let written : output'' ≡ put output entries_at (E ++ B) =
          put_more output entries_at E B (entries_at + entry_width * p.count) (omega (arith, entries_long, in_room, ready.output_long))
          w.output_now
          (omega (arith, entries_long)) (e ∙ ap (put output' (entries_at + entry_width * p.count)) stretch) in
          let base : Written (cut_at p w.placed) output output'' room p =
          record {
            position_now = refl;
            counted = w.counted;
            few = w.few;
            in_room = omega (arith, in_room);
            bytes_counted = w.bytes_counted;
            output_now = written;
          } in
          rw whole base
