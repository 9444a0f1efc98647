-- What is printed of lines is read as these lines.
use Rattle.std.proofs.Common.{◌≡◌, ℕ, ◌+◌, eqb, Bool, true, false, ◌||◌, cond, if◌then◌else◌, List, [], ◌∷◌, ◌++◌}
use Rattle.std.proofs.Common.{reverse, codes, refl, sym, ap, subst, ◌∙◌, append_assoc, append-nil, Option, Some, None}
use Rattle.std.proofs.Common.{Result, Ok}
use Rattle.std.specs.Prelude.{decimal}
use Rattle.std.specs.List.{list_any, join_with_byte}
use Rattle.std.proofs.lemmas.List.{reverse-append}
use Rattle.std.proofs.lemmas.List.Splits.{slice_split_at}
use Rattle.percent_encoding.specs.Percent.{percent_decode}
use Rattle.rom_fields.specs.Texts as put
use Rattle.rom_fields.specs.Texts.{escaped}
use Rattle.manifest.specs.Texts.{pieces, is_empty}
use Rattle.manifest.specs.Paths.{names_of, is_bad_path}
use Rattle.manifest.specs.Lines.{is_dir}
use Rattle.manifest.specs.Grammar.{Seen, Fault, Fields, fault, is_bad_text, has_parent, is_align, has_target, fields_of}
use Rattle.manifest.specs.Grammar.{numbers_of, all_numbers, with_numbers, line_of, read_fields, read_numbers, read_by}
use Rattle.manifest.specs.Grammar.{read_volume, read_lines, with_line, volume_field, fault_of, manifest_of}
use Rattle.manifest.specs.Grammar.{nothing_read, and_then, as_manifest, is_skipped}
use Rattle.manifest.specs.Grammar as grammar
use Rattle.manifest.specs.declared.error.TheConstants.{BAD_WORD, BAD_PATH}
use Rattle.manifest.specs.declared.line.Line.{Line}
use Rattle.manifest.specs.declared.line.Word.{Word}
use Rattle.manifest.specs.declared.line.Word.TheVariants.{Dir, File, Slink, Block, Character, Fifo, Socket, Hard, Same}
use Rattle.manifest.specs.Printed.{attributes, texts_by, line_text, lines_text, volume_text, manifest_text}
use Rattle.manifest.specs.Printed.{numbered, numbered_from, first_number, as_read, HasOnly, IsSpelled, AreTaken}
use Rattle.manifest.specs.Printed.{IsVolume}
use Rattle.manifest.proofs.Fitting.{clear, all_clear, IsField, by_tests, AreFields, pieces_joined, none_empty}
use Rattle.manifest.proofs.Fitting.{no_feeds, decoded, escaped_field}
use Rattle.manifest.proofs.Decimals.{octal_read, octal_field, decimal_read, decimal_field, decimal_zero}

-- A line without a fault has a path; if its text is an OLD, the text is a path as well.

sound_names : (ls : List Line) (l : Line) → fault_of ls l ≡ None
    → (is_bad_path (is_dir l.word) (names_of l.path) ≡ false) × (is_bad_text l.word l.text ≡ false)
unfolding fault_of
sound_names ls l h =
    by (is_bad_path (is_dir l.word) (names_of l.path)) (is_bad_text l.word l.text) _ h
  where
    by : (a b : Bool) (o : Option ℕ) → cond (a || b) (Some BAD_PATH) o ≡ None → (a ≡ false) × (b ≡ false)
    by true b o h = absurd (cc)
    by false true o h = absurd (cc)
    by false false o h = (refl, refl)

no_path : (root : Bool) (path : List ℕ) → path ≡ [] → is_bad_path root (names_of path) ≡ true
unfolding names_of
no_path root path e = rw e refl

some_path : (root : Bool) (path : List ℕ) → is_bad_path root (names_of path) ≡ false → path ≡ [] → ⊥
some_path root path h e = let t = no_path root path e in cc

-- The fields of a line are read as fields.

attribute_fields : (l : Line) → IsSpelled l → (l.path ≡ [] → ⊥) → (rest : List (List ℕ)) → AreFields rest
    → AreFields (attributes l ++ rest)
attribute_fields l h k rest f =
    (escaped_field l.path h.path k, (octal_field l.mode, (decimal_field l.uid h.uid, (decimal_field l.gid h.gid, f))))

abbrev Sound : Word → Line → Type 0
Sound w l = (l.path ≡ [] → ⊥) × (is_bad_text w l.text ≡ false)

are_fields : (w : Word) (l : Line) → IsSpelled l → HasOnly w l → Sound w l → AreFields (texts_by w l)
unfolding clear
are_fields Dir l h k s = (by_tests (codes "dir") refl refl refl, attribute_fields l h s.0 [] tt)
are_fields File l h k s = (
  by_tests (codes "file") refl refl refl,
  attribute_fields l h s.0 (decimal l.align ∷ escaped l.text ∷ [])
      (decimal_field l.align h.align, (escaped_field l.text h.text k.2, tt)),
)
are_fields Slink l h k s = (
  by_tests (codes "slink") refl refl refl,
  attribute_fields l h s.0 (escaped l.text ∷ []) (escaped_field l.text h.text k.3, tt),
)
are_fields Block l h k s = (
  by_tests (codes "nod") refl refl refl,
  attribute_fields l h s.0 (codes "b" ∷ decimal l.major ∷ decimal l.minor ∷ [])
      (by_tests (codes "b") refl refl refl, (decimal_field l.major h.major, (decimal_field l.minor h.minor, tt))),
)
are_fields Character l h k s = (
  by_tests (codes "nod") refl refl refl,
  attribute_fields l h s.0 (codes "c" ∷ decimal l.major ∷ decimal l.minor ∷ [])
      (by_tests (codes "c") refl refl refl, (decimal_field l.major h.major, (decimal_field l.minor h.minor, tt))),
)
are_fields Fifo l h k s = (by_tests (codes "pipe") refl refl refl, attribute_fields l h s.0 [] tt)
are_fields Socket l h k s = (by_tests (codes "sock") refl refl refl, attribute_fields l h s.0 [] tt)
are_fields Hard l h k s = (
  by_tests (codes "hard") refl refl refl,
  (escaped_field l.path h.path s.0, (escaped_field l.text h.text (some_path false l.text s.1), tt)),
)
are_fields Same l h k s = (
  by_tests (codes "same") refl refl refl,
  attribute_fields l h s.0 (escaped l.text ∷ []) (escaped_field l.text h.text (some_path false l.text s.1), tt),
)

-- the texts of all fields of a line
abbrev spelled : Word → Line → Fields
spelled w l = record {
  word = w;
  path = escaped l.path;
  mode = put.octal l.mode;
  uid = decimal l.uid;
  gid = decimal l.gid;
  align = decimal l.align;
  major = decimal l.major;
  minor = decimal l.minor;
  text = escaped l.text;
}

fields_read : (w : Word) (l : Line) → HasOnly w l → fields_of (texts_by w l) ≡ Some (spelled w l)
unfolding escaped put.octal
fields_read Dir l h = rw (h.0, h.1, h.2, h.3, decimal_zero) refl
fields_read File l h = rw (h.0, h.1, decimal_zero) refl
fields_read Slink l h = rw (h.0, h.1, h.2, decimal_zero) refl
fields_read Block l h = rw (h.0, h.1, decimal_zero) refl
fields_read Character l h = rw (h.0, h.1, decimal_zero) refl
fields_read Fifo l h = rw (h.0, h.1, h.2, h.3, decimal_zero) refl
fields_read Socket l h = rw (h.0, h.1, h.2, h.3, decimal_zero) refl
fields_read Hard l h = rw (h.0, h.1, h.2, h.3, h.4, h.5, decimal_zero) refl
fields_read Same l h = rw (h.0, h.1, h.2, decimal_zero) refl

no_volume : (w : Word) (l : Line) → volume_field (texts_by w l) ≡ None
no_volume Dir l = refl
no_volume File l = refl
no_volume Slink l = refl
no_volume Block l = refl
no_volume Character l = refl
no_volume Fifo l = refl
no_volume Socket l = refl
no_volume Hard l = refl
no_volume Same l = refl

-- the line, of another word
abbrev as_word : ℕ → Word → Line → Line
as_word n w l = record {
  number = n;
  word = w;
  path = l.path;
  mode = l.mode;
  uid = l.uid;
  gid = l.gid;
  align = l.align;
  major = l.major;
  minor = l.minor;
  text = l.text;
}

line_read : (n : ℕ) (w : Word) (l : Line) → IsSpelled l → line_of n (spelled w l) ≡ Some (as_word n w l)
unfolding numbers_of
line_read n w l h =
    rw (
      octal_read l.mode h.mode,
      decimal_read l.uid h.uid,
      decimal_read l.gid h.gid,
      decimal_read l.align h.align,
      decimal_read l.major h.major,
      decimal_read l.minor h.minor,
      decoded l.path h.path,
      decoded l.text h.text,
    ) refl

-- Lines.

abbrev with_one : Seen → Line → Seen
with_one s l = record { latest = l ∷ s.latest; volume = s.volume; volume_line = s.volume_line }

abbrev by_pieces : Seen → ℕ → List (List ℕ) → Result Seen Fault
by_pieces s n ps = if list_any is_empty ps then fault n BAD_WORD else read_by s n ps (volume_field ps)

read_is : (s : Seen) (n : ℕ) (line : List ℕ) → grammar.read s n line ≡ by_pieces s n (pieces 32 line)
unfolding grammar.read
read_is s n line = refl

-- the first of the texts, and those behind it
texts_some : (w : Word) (l : Line) → (t : List ℕ) × (ts : List (List ℕ)) × (texts_by w l ≡ t ∷ ts)
texts_some Dir l = (_, _, refl)
texts_some File l = (_, _, refl)
texts_some Slink l = (_, _, refl)
texts_some Block l = (_, _, refl)
texts_some Character l = (_, _, refl)
texts_some Fifo l = (_, _, refl)
texts_some Socket l = (_, _, refl)
texts_some Hard l = (_, _, refl)
texts_some Same l = (_, _, refl)

pieces_of : (w : Word) (l : Line) → AreFields (texts_by w l)
    → pieces 32 (join_with_byte 32 (texts_by w l)) ≡ texts_by w l
pieces_of w l h =
    let t = texts_some w l in
    ap (λ (x : List (List ℕ)). pieces 32 (join_with_byte 32 x)) t.2 ∙ pieces_joined t.0 t.1 (subst AreFields t.2 h)
    ∙ sym t.2

taken : (s : Seen) (n : ℕ) (w : Word) (l : Line) → IsSpelled l → HasOnly w l → AreFields (texts_by w l)
    → by_pieces s n (texts_by w l) ≡ with_line s n (as_word n w l) (fault_of s.latest (as_word n w l))
taken s n w l h k f =
    rw (none_empty (texts_by w l) f, no_volume w l, fields_read w l k, line_read n w l h) refl

with_none : (s : Seen) (n : ℕ) (l : Line) (o : Option ℕ) → o ≡ None → with_line s n l o ≡ Ok (with_one s l)
with_none s n l o e = ap (with_line s n l) e

sound : (ls : List Line) (n : ℕ) (l : Line) → fault_of ls (numbered n l) ≡ None → Sound l.word l
sound ls n l h =
    let s = sound_names ls (numbered n l) h in (some_path (is_dir l.word) l.path s.0, s.1)

one_read : (s : Seen) (n : ℕ) (l : Line) → IsSpelled l → fault_of s.latest (numbered n l) ≡ None
    → grammar.read s n (line_text l) ≡ Ok (with_one s (numbered n l))
unfolding line_text
one_read s n l h k =
    let f = are_fields l.word l h h.only (sound s.latest n l k) in
    read_is s n (join_with_byte 32 (texts_by l.word l)) ∙ ap (by_pieces s n) (pieces_of l.word l f)
    ∙ taken s n l.word l h h.only f ∙ with_none s n (numbered n l) (fault_of s.latest (numbered n l)) k

line_clear : (ls : List Line) (n : ℕ) (l : Line) → IsSpelled l → fault_of ls (numbered n l) ≡ None
    → clear 10 (line_text l) ≡ true
unfolding line_text
line_clear ls n l h k = no_feeds (texts_by l.word l) (are_fields l.word l h h.only (sound ls n l k))

not_skipped : (l : Line) → is_skipped (line_text l) ≡ false
unfolding line_text
not_skipped l = by l.word
  where
    by : (w : Word) → is_skipped (join_with_byte 32 (texts_by w l)) ≡ false
    by Dir = refl
    by File = refl
    by Slink = refl
    by Block = refl
    by Character = refl
    by Fifo = refl
    by Socket = refl
    by Hard = refl
    by Same = refl

-- the texts of lines, and the empty one behind the last line feed
abbrev texts : List Line → List (List ℕ)
texts [] = [] ∷ []
texts (l ∷ ls) = line_text l ∷ texts ls

cut_one : (t rest : List ℕ) → clear 10 t ≡ true → pieces 10 ((t ++ codes "\n") ++ rest) ≡ t ∷ pieces 10 rest
cut_one t rest h =
    ap (pieces 10) (append_assoc t (codes "\n") rest) ∙ slice_split_at (λ b. eqb b 10) t 10 rest (all_clear 10 t h) refl

cut : (latest : List Line) (n : ℕ) (ls : List Line) → AreTaken latest n ls → pieces 10 (lines_text ls) ≡ texts ls
cut latest n [] h = refl
cut latest n (l ∷ ls) h =
    cut_one (line_text l) (lines_text ls) (line_clear latest n l h.0 h.1)
    ∙ ap (λ (x : List (List ℕ)). line_text l ∷ x) (cut (numbered n l ∷ latest) (n + 1) ls h.2)

abbrev seen_after : Seen → ℕ → List Line → Seen
seen_after s n [] = s
seen_after s n (l ∷ ls) = seen_after (with_one s (numbered n l)) (n + 1) ls

first_read : (s : Seen) (n : ℕ) (t : List ℕ) (ts : List (List ℕ)) → is_skipped t ≡ false
    → read_lines s n (t ∷ ts) ≡ and_then (grammar.read s n t) (λ u. read_lines u (n + 1) ts)
first_read s n t ts h = rw h refl

all_read : (s : Seen) (n : ℕ) (ls : List Line) → AreTaken s.latest n ls
    → read_lines s n (texts ls) ≡ Ok (seen_after s n ls)
all_read s n [] h = refl
all_read s n (l ∷ ls) h =
    first_read s n (line_text l) (texts ls) (not_skipped l)
    ∙ ap (λ (r : Result Seen Fault). and_then r (λ t. read_lines t (n + 1) (texts ls))) (one_read s n l h.0 h.1)
    ∙ all_read (with_one s (numbered n l)) (n + 1) ls h.2

seen_lines : (s : Seen) (n : ℕ) (ls : List Line)
    → reverse (seen_after s n ls).latest ≡ reverse s.latest ++ numbered_from n ls
seen_lines s n [] = sym (append-nil (reverse s.latest))
seen_lines s n (l ∷ ls) =
    seen_lines (with_one s (numbered n l)) (n + 1) ls
    ∙ ap (λ (x : List Line). x ++ numbered_from (n + 1) ls) (reverse-append (numbered n l ∷ []) s.latest)
    ∙ append_assoc (reverse s.latest) (numbered n l ∷ []) (numbered_from (n + 1) ls)

seen_volume : (s : Seen) (n : ℕ) (ls : List Line)
    → ((seen_after s n ls).volume ≡ s.volume) × ((seen_after s n ls).volume_line ≡ s.volume_line)
seen_volume s n [] = (refl, refl)
seen_volume s n (l ∷ ls) = seen_volume (with_one s (numbered n l)) (n + 1) ls

-- lines behind a start at which no line was read, except perhaps the volume's
from : (s : Seen) (n : ℕ) (ls : List Line) → s.latest ≡ [] → AreTaken [] n ls
    → as_manifest (read_lines s n (texts ls))
    ≡ Ok (record { lines = numbered_from n ls; volume = s.volume; volume_line = s.volume_line })
from s n ls e h =
    let t = seen_after s n ls in
    let v = seen_volume s n ls in
    let lines : reverse t.latest ≡ numbered_from n ls =
    seen_lines s n ls ∙ ap (λ (x : List Line). reverse x ++ numbered_from n ls) e in
    ap as_manifest (all_read s n ls (subst (λ (x : List Line). AreTaken x n ls) (sym e) h))
    ∙ as_lines t (numbered_from n ls) s.volume s.volume_line lines v.0 v.1
  where
    as_lines : (t : Seen) (lines : List Line) (volume : List ℕ) (line : ℕ) → reverse t.latest ≡ lines
        → t.volume ≡ volume → t.volume_line ≡ line
        → as_manifest (Ok t) ≡ Ok (record { lines = lines; volume = volume; volume_line = line })
    as_lines t lines volume line a b c = cc

-- The volume.

abbrev named : List ℕ → Seen
named name = record { latest = []; volume = name; volume_line = 1 }

volume_fields : (name : List ℕ) → IsField (escaped name) → AreFields (codes "volume" ∷ escaped name ∷ [])
unfolding clear
volume_fields name h = (by_tests (codes "volume") refl refl refl, (h, tt))

volume_read : (name : List ℕ) → IsVolume name → IsField (escaped name)
    → grammar.read nothing_read 1 (volume_text name) ≡ Ok (named name)
unfolding volume_text
volume_read name h f =
    let ts = codes "volume" ∷ escaped name ∷ [] in
    let fields = volume_fields name f in
    read_is nothing_read 1 (join_with_byte 32 ts)
    ∙ ap (by_pieces nothing_read 1) (pieces_joined (codes "volume") (escaped name ∷ []) fields)
    ∙ by_name (none_empty ts fields)
  where
    good : (x : List ℕ) → x ≡ name → read_volume nothing_read 1 x ≡ Ok (named name)
    good x e = rw (e, h.good) refl

    by_name : list_any is_empty (codes "volume" ∷ escaped name ∷ []) ≡ false
        → by_pieces nothing_read 1 (codes "volume" ∷ escaped name ∷ []) ≡ Ok (named name)
    by_name e = rw e (good (percent_decode (escaped name)) (decoded name h.bytes))

volume_clear : (name : List ℕ) → IsField (escaped name) → clear 10 (volume_text name) ≡ true
unfolding volume_text
volume_clear name h = no_feeds (codes "volume" ∷ escaped name ∷ []) (volume_fields name h)

volume_first : (name : List ℕ) → is_skipped (volume_text name) ≡ false
unfolding volume_text
volume_first name = refl

pub reads : (volume : List ℕ) (ls : List Line) → IsVolume volume → AreTaken [] (first_number volume) ls
    → manifest_of (manifest_text volume ls) ≡ Ok (as_read volume ls)
unfolding manifest_of
reads [] ls v h =
    ap (λ (x : List (List ℕ)). as_manifest (read_lines nothing_read 1 x)) (cut [] 1 ls h)
    ∙ from nothing_read 1 ls refl h
reads (b ∷ bs) ls v h =
    let name = b ∷ bs in
    let f = escaped_field name v.bytes (λ e. some_name b bs e) in
    ap (λ (x : List (List ℕ)). as_manifest (read_lines nothing_read 1 x))
    (cut_one (volume_text name) (lines_text ls) (volume_clear name f)
    ∙ ap (λ (x : List (List ℕ)). volume_text name ∷ x) (cut [] 2 ls h))
    ∙ ap as_manifest (first_read nothing_read 1 (volume_text name) (texts ls) (volume_first name)
    ∙ ap (λ (r : Result Seen Fault). and_then r (λ t. read_lines t 2 (texts ls))) (volume_read name v f))
    ∙ from (named name) 2 ls refl h
  where
    some_name : (b : ℕ) (bs : List ℕ) → b ∷ bs ≡ [] → ⊥
    some_name b bs e = absurd (cc)
