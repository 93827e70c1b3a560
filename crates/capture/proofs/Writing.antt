-- How a capture grows, and that the fronts of its two slices are the file of its entries; and so where it grows in one slice.
use Prim.Native.Nat.{ℕ, ◌+◌, ◌*◌, ◌≤◌}
use mathlib.Core.Path.{◌≡◌, refl, sym, ap, ◌∙◌}
use mathlib.Core.Bool.{true}
use mathlib.Core.List.{List, [], ◌∷◌, ◌++◌, map, append_assoc}
use native.Mathlib.Omega.{arith}
use lib.Dec.{leb}
use borrow.Author.Tests.{le-leb, leb-true, ltb-false}
use Rattle.refusal.specs.Refusal.{first}
use Rattle.refusal.proofs.Laws.{and_left, and_right, none-applies}
use lib.ListN.{length, set, length-append}
use Rattle.octets.specs.Bytes.{two}
use Rattle.octets.specs.Stretch.{part, put, joined}
use Rattle.octets.proofs.Stretches.{length-put, part-put, put-nil, put-put, put_more, put-before, put_apart, set-set-put}
use Rattle.octets.proofs.Stretches.{joined-none, joined-map_more, length-joined-none, length-joined-map}
use Rattle.capture.specs.declared.Writer.{Writer}
use Rattle.capture.specs.File.{head_length, entry_length, longest_file, most_entries, Entry, content_of, body_of, file_of}
use Rattle.capture.specs.Write.{added, file_length, within, write_refusals, Holds}
use Rattle.capture.specs.Write.{bodies_from, FitsIn, laid, Laid}

-- one entry's stores are one put
module _ (d : List ℕ) (at kind size : ℕ) (inside : at + entry_length ≤ length d) where
  marks_put : set (set d at kind) (at + 1) 0 ≡ put d at (kind ∷ 0 ∷ [])
  marks_put = set-set-put d at kind 0 (omega arith)

  module _ (last : List ℕ) (e : last ≡ put (set (set d at kind) (at + 1) 0) (at + 2) (two size)) where
    pub entry_put : last ≡ put d at (kind ∷ 0 ∷ two size)
    entry_put =
        e ∙ ap (λ (l : List ℕ). put l (at + 2) (two size)) marks_put ∙ put-put d at (kind ∷ 0 ∷ []) (two size) (omega arith)

-- The limits.
pub within_facts : (w : Writer) → within w ≡ true → (w.entries ≤ most_entries) × (file_length w ≤ longest_file)
within_facts w e = (
  leb-true w.entries most_entries (and_left (leb w.entries most_entries) (leb (file_length w) longest_file) e),
  leb-true (file_length w) longest_file (and_right (leb w.entries most_entries) (leb (file_length w) longest_file) e),
)

-- a file that is not refused is within the limits
pub not-refused : (w : Writer) → first (write_refusals w) ≡ 0 → within w ≡ true
not-refused w z =
    let n = none-applies (write_refusals w) refl z in
    let few = le-leb w.entries most_entries (ltb-false most_entries w.entries n.1.0) in
    let short = le-leb (file_length w) longest_file (ltb-false longest_file (file_length w) n.0) in
    rw (few, short) refl

-- Entries, one more each time.
pub contents_length : (es : List Entry) → length (joined (map content_of es)) ≡ entry_length * length es
contents_length es = length-joined-map content_of entry_length (λ e. refl) es

-- how long the file of these entries is
pub file_length_lem : (es : List Entry) → length (file_of es) ≡ head_length + entry_length * length es + length (joined (map body_of es))
unfolding file_of
file_length_lem es =
    let a = length-append (two (length es) ++ joined (map content_of es)) (joined (map body_of es)) in
    let b = contents_length es in
    omega arith

pub holds_none : (contents bodies : List ℕ) → Holds [] contents bodies contents bodies (record { entries = 0; bytes = 0 })
holds_none contents bodies =
    record {
      entries-counted = refl;
      bytes_counted = sym length-joined-none;
      contents_now = sym (ap (put contents head_length) joined-none ∙ put-nil contents head_length);
      bodies_now = sym (ap (put bodies 0) joined-none ∙ put-nil bodies 0);
    }

module _ {es : List Entry} {contents₀ bodies₀ contents bodies : List ℕ} {w : Writer} (h : Holds es contents₀ bodies₀ contents bodies w)
    (contents-room : head_length + entry_length * w.entries ≤ length contents₀) (bodies-room : w.bytes ≤ length bodies₀) where
  front : length (joined (map content_of es)) ≡ entry_length * w.entries
  front = contents_length es ∙ ap (λ (n : ℕ). entry_length * n) (sym h.entries-counted)

  pub holds_more : (e : Entry) (contents' bodies' : List ℕ) →
      contents' ≡ put contents (head_length + entry_length * w.entries) (content_of e) →
      bodies' ≡ put bodies w.bytes e.body → Holds (es ++ (e ∷ [])) contents₀ bodies₀ contents' bodies' (added w e.body)
  holds_more e contents' bodies' c b =
      let C = joined (map content_of es) in
      let B = joined (map body_of es) in
      let more-bodies = joined-map_more body_of es e in
      record {
        entries-counted = omega (arith, h.entries-counted, length-append es (e ∷ []));
        bytes_counted = omega (arith, h.bytes_counted, ap length more-bodies, length-append B e.body);
        contents_now =
            put_more contents₀ head_length C (content_of e) (head_length + entry_length * w.entries) (omega (arith, front)) h.contents_now
            (omega (arith, front)) c
            ∙ ap (put contents₀ head_length) (sym (joined-map_more content_of es e));
        bodies_now =
            put_more bodies₀ 0 B e.body w.bytes (omega (arith, h.bytes_counted)) h.bodies_now (omega (arith, h.bytes_counted)) b
            ∙ ap (put bodies₀ 0) (sym more-bodies);
      }

  -- The file: the front of the contents, once the count is written, and the front of the bodies.
  pub file_there : (contents' : List ℕ) → contents' ≡ put contents 0 (two w.entries) →
      part contents' 0 (head_length + entry_length * w.entries) ++ part bodies 0 w.bytes ≡ file_of es
  unfolding file_of
  file_there contents' e =
      let C = joined (map content_of es) in
      let B = joined (map body_of es) in
      let head = two (length es) ++ C in
      let whole : contents' ≡ put contents₀ 0 head =
      e
      ∙ ap (λ (l : List ℕ). put l 0 (two w.entries)) h.contents_now
      ∙ put-before contents₀ 0 (two w.entries) C (omega arith)
      ∙ ap (λ (n : ℕ). put contents₀ 0 (two n ++ C)) h.entries-counted in
      let long : head_length + entry_length * w.entries ≡ length head = omega (arith, front) in
      let contents-front : part contents' 0 (head_length + entry_length * w.entries) ≡ head =
      ap (λ (l : List ℕ). part l 0 (head_length + entry_length * w.entries)) whole ∙ ap (part (put contents₀ 0 head) 0) long
      ∙ part-put contents₀ 0 head (omega (arith, front)) in
      let bodies-front : part bodies 0 w.bytes ≡ B =
      ap (λ (l : List ℕ). part l 0 w.bytes) h.bodies_now ∙ ap (part (put bodies₀ 0 B) 0) h.bytes_counted
      ∙ part-put bodies₀ 0 B (omega (arith, h.bytes_counted)) in
      rw (contents-front, bodies-front) refl

-- Into one slice.
pub laid_none : (file : List ℕ) (count : ℕ) → Laid [] count file file (record { entries = 0; bytes = 0 })
laid_none file count =
    record {
      entries-counted = refl;
      bytes_counted = sym length-joined-none;
      as_long = refl;
      file_now = sym (rw joined-none (put-nil (put file head_length []) (bodies_from count) ∙ put-nil file head_length));
    }

module _ {es : List Entry} {count : ℕ} {file₀ file : List ℕ} {w : Writer} (l : Laid es count file₀ file w) where
  written : length (joined (map content_of es)) ≡ entry_length * w.entries
  written = contents_length es ∙ ap (λ (n : ℕ). entry_length * n) (sym l.entries-counted)

  pub laid_more : (e : Entry) (file' : List ℕ) → FitsIn file count w e.body → file' ≡ laid file count w e →
      Laid (es ++ (e ∷ [])) count file₀ file' (added w e.body)
  laid_more e file' f now =
      let C = joined (map content_of es) in
      let B = joined (map body_of es) in
      let H = bodies_from count in
      let at = head_length + entry_length * w.entries in
      let bytes = l.bytes_counted in
      let fits : H + length B + length e.body ≤ length file₀ = omega (arith, f.body-inside, l.as_long, bytes) in
      let front : head_length + length C + entry_length ≤ H = omega (arith, written, f.entry_left) in
      let there : at ≡ head_length + length C = omega (arith, written) in
      let long : length (put file₀ head_length C) ≡ length file₀ = length-put file₀ head_length C (omega (arith, fits, front)) in
      let more-contents = joined-map_more content_of es e in
      let more-bodies = joined-map_more body_of es e in
      let long-more : length (put file₀ head_length (C ++ content_of e)) ≡ length file₀ =
      length-put file₀ head_length (C ++ content_of e) (omega (arith, fits, front, length-append C (content_of e))) in
      let stands : file' ≡ put (put file₀ head_length (C ++ content_of e)) H (B ++ e.body) =
      now
      ∙ ap (λ (l : List ℕ). put (put l at (content_of e)) (H + w.bytes) e.body) l.file_now
      ∙ ap (λ (i : ℕ). put (put (put (put file₀ head_length C) H B) i (content_of e)) (H + w.bytes) e.body) there
      ∙ ap (λ (l : List ℕ). put l (H + w.bytes) e.body)
      (put_apart (put file₀ head_length C) (head_length + length C) (content_of e) H B front (omega (arith, fits, long)))
      ∙ ap (λ (l : List ℕ). put (put l H B) (H + w.bytes) e.body)
      (put-put file₀ head_length C (content_of e) (omega (arith, fits, front)))
      ∙ ap (λ (n : ℕ). put (put (put file₀ head_length (C ++ content_of e)) H B) (H + n) e.body) bytes
      ∙ put-put (put file₀ head_length (C ++ content_of e)) H B e.body (omega (arith, fits, long-more)) in
      record {
        entries-counted = omega (arith, l.entries-counted, length-append es (e ∷ []));
        bytes_counted = omega (arith, bytes, ap length more-bodies, length-append B e.body);
        as_long =
            ap length stands
            ∙ length-put (put file₀ head_length (C ++ content_of e)) H (B ++ e.body)
            (omega (arith, fits, long-more, length-append B e.body))
            ∙ long-more;
        file_now =
            stands
            ∙ ap (λ (l : List ℕ). put (put file₀ head_length l) H (B ++ e.body)) (sym more-contents)
            ∙ ap (put (put file₀ head_length (joined (map content_of (es ++ (e ∷ []))))) H) (sym more-bodies);
      }

  -- The file stands at the slice's front once all entries are laid and their number is written.
  pub laid_finished : (file' : List ℕ) → count ≡ w.entries → bodies_from count + w.bytes ≤ length file₀ →
      file' ≡ put file 0 (two w.entries) → file' ≡ put file₀ 0 (file_of es)
  unfolding file_of
  laid_finished file' all room now =
      let C = joined (map content_of es) in
      let B = joined (map body_of es) in
      let behind : bodies_from count ≡ head_length + length C = omega (arith, all, written) in
      let inside : head_length + length C ≤ length file₀ = omega (arith, behind, room) in
      now
      ∙ ap (λ (l : List ℕ). put l 0 (two w.entries)) l.file_now
      ∙ ap (λ (i : ℕ). put (put (put file₀ head_length C) i B) 0 (two w.entries)) behind
      ∙ ap (λ (l : List ℕ). put l 0 (two w.entries)) (put-put file₀ head_length C B inside)
      ∙ put-before file₀ 0 (two w.entries) (C ++ B) (omega arith)
      ∙ ap (λ (n : ℕ). put file₀ 0 (two n ++ (C ++ B))) l.entries-counted
      ∙ ap (put file₀ 0) (sym (append_assoc (two (length es)) C B))
