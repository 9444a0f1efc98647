-- The contents of the paths of lines that the grammar accepts.
use Rattle.std.proofs.Common.{◌≡◌, ℕ, ◌+◌, ◌≤◌, Bool, true, false, ◌&&◌, ◌||◌, cond, List, [], ◌∷◌, reverse, Option}
use Rattle.std.proofs.Common.{None, Some, refl, sym, ap, subst, ◌∙◌, ◌⊎◌, inl, inr, arith, add-one}
use Rattle.std.proofs.Common.{filter, map, slice_get}
use Rattle.std.proofs.lemmas.Bool.{le-ltb, lt-ltb}
use Rattle.std.specs.Cmp.Lexicographic.{bytes_decides}
use Rattle.std.specs.Option.{is_some, option_map}
use Rattle.std.specs.Str.{bytes_eq}
use Rattle.record_forest.specs.Members.{Has}
use Rattle.manifest.specs.declared.line.Line.{Line}
use Rattle.manifest.specs.declared.line.Word.{Word}
use Rattle.manifest.specs.declared.line.Word.TheVariants.{Dir, File, Slink, Block, Character, Fifo, Socket}
use Rattle.manifest.specs.declared.line.Word.TheVariants.{Hard, Same}
use Rattle.manifest.specs.Grammar.{fault_of}
use Rattle.manifest.specs.Lines.{filed, is_file, is_hard, is_same, led, line_at, sources_of}
use Rattle.manifest.specs.Paths.{names_of}
use Rattle.manifest.specs.Printed.{AreTaken, numbered, numbered_from}
use Rattle.manifest_tree.specs.Tree.{file_at, file_named, inode_of, sources_before, with_contents}
use Rattle.build_commands.proofs.Meant.{all_reversed, other_path, taken_after}
use Rattle.build_commands.proofs.Reported.{named_at, none_some, some_same}

-- ---- among the lines in reverse order

-- The line of a path's contents is a `file` line among these, and one of these has the path.
pub record IsMember (latest : List Line) (p : List ℕ) (x : Line) : Type 0 where
  pub among : Has (λ l. l ≡ x) latest
  pub file : is_file x.word ≡ true
  pub path : Has (λ l. l.path ≡ p) latest
  pub there : is_some (line_at latest p) ≡ true

pub member : (ls : List Line) (p : List ℕ) (x : Line) → filed ls p ≡ Some x → IsMember ls p x
member [] p x h = absurd (none_some x h)
member (l ∷ ls) p x h = by (λ q g. member ls q x g) (bytes_eq l.path p) refl h
  where
    own : ((q : List ℕ) → filed ls q ≡ Some x → IsMember ls q x) → (b c : Bool) → is_file l.word ≡ c
        → cond b (filed ls l.text) (cond c (Some l) None) ≡ Some x → Has (λ k. k ≡ x) (l ∷ ls) × (is_file x.word ≡ true)
    own rest true c j g = let r = rest l.text g in (inr r.among, r.file)
    own rest false true j g =
        (inl (some_same l x g), subst (λ (k : Line). is_file k.word ≡ true) (some_same l x g) j)
    own rest false false j g = absurd (none_some x g)

    by : ((q : List ℕ) → filed ls q ≡ Some x → IsMember ls q x) → (b : Bool) → bytes_eq l.path p ≡ b
        → cond b (cond (is_hard l.word || is_same l.word) (filed ls l.text) (cond (is_file l.word) (Some l) None))
        (filed ls p) ≡ Some x
        → IsMember (l ∷ ls) p x
    by rest true e g =
        let o = own rest (is_hard l.word || is_same l.word) (is_file l.word) refl g in
        record { among = o.0; file = o.1; path = inl ((bytes_decides l.path p).0 e); there = rw e refl }
    by rest false e g =
        let r = rest p g in
        record { among = inr r.among; file = r.file; path = inr r.path; there = rw e r.there }

-- the contents of a path stay, whatever line is accepted behind
pub filed_kept : (latest : List Line) (n : ℕ) (l : Line) (p : List ℕ) (x : Line)
    → fault_of latest (numbered n l) ≡ None → filed latest p ≡ Some x → filed (numbered n l ∷ latest) p ≡ Some x
filed_kept latest n l p x f h = rw (other_path latest n l p f (member latest p x h).there) h

-- A path leads to a line that makes a regular file with the contents of the line x.
pub record Leads (latest : List Line) (p : List ℕ) (x : Line) : Type 0 where
  pub line : Line
  pub leads : led latest p ≡ Some line
  pub has : filed latest line.path ≡ Some x
  pub makes : (all : List Line) (sizes : List ℕ)
      → inode_of all sizes line ≡ with_contents all sizes line (filed (reverse all) line.path)

abbrev AllLead : List Line → Type 0
AllLead latest = (p : List ℕ) (x : Line) → filed latest p ≡ Some x → Leads latest p x

lead_more : (latest : List Line) (n : ℕ) (l : Line) → fault_of latest (numbered n l) ≡ None → AllLead latest
    → AllLead (numbered n l ∷ latest)
unfolding inode_of
lead_more latest n l f rest p x h = by (bytes_eq l.path p) refl h
  where
    behind : (q : List ℕ) → led (numbered n l ∷ latest) p ≡ led latest q → Leads latest q x
        → Leads (numbered n l ∷ latest) p x
    behind q e r = record {
      line = r.line;
      leads = e ∙ r.leads;
      has = filed_kept latest n l r.line.path x f r.has;
      makes = r.makes;
    }

    itself : bytes_eq l.path p ≡ true → is_hard l.word ≡ false
        → ((all : List Line) (sizes : List ℕ)
        → inode_of all sizes (numbered n l) ≡ with_contents all sizes (numbered n l) (filed (reverse all) l.path))
        → Leads (numbered n l ∷ latest) p x
    itself e i m = record {
      line = numbered n l;
      leads = rw (e, i) refl;
      has = subst (λ (q : List ℕ). filed (numbered n l ∷ latest) q ≡ Some x) (sym ((bytes_decides l.path p).0 e)) h;
      makes = m;
    }

    own : (w : Word) → l.word ≡ w → bytes_eq l.path p ≡ true
        → cond (is_hard w || is_same w) (filed latest l.text) (cond (is_file w) (Some (numbered n l)) None) ≡ Some x
        → Leads (numbered n l ∷ latest) p x
    own Hard i e g = behind l.text (rw (e, i) refl) (rest l.text x g)
    own File i e g = itself e (rw i refl) (λ all sizes. rw i refl)
    own Same i e g = itself e (rw i refl) (λ all sizes. rw i refl)
    own Dir i e g = absurd (none_some x g)
    own Slink i e g = absurd (none_some x g)
    own Block i e g = absurd (none_some x g)
    own Character i e g = absurd (none_some x g)
    own Fifo i e g = absurd (none_some x g)
    own Socket i e g = absurd (none_some x g)

    by : (b : Bool) → bytes_eq l.path p ≡ b
        → cond b (cond (is_hard l.word || is_same l.word) (filed latest l.text)
        (cond (is_file l.word) (Some (numbered n l)) None)) (filed latest p) ≡ Some x
        → Leads (numbered n l ∷ latest) p x
    by true e g = own l.word refl e g
    by false e g = behind p (rw e refl) (rest p x g)

lead_all : (latest : List Line) (n : ℕ) (ls : List Line) → AreTaken latest n ls → AllLead latest
    → AllLead (taken_after latest n ls)
lead_all latest n [] t r = r
lead_all latest n (l ∷ ls) t r = lead_all (numbered n l ∷ latest) (n + 1) ls t.2 (lead_more latest n l t.1 r)

-- ---- among the lines in their order

taken_has : (P : Line → Type 0) (latest : List Line) (n : ℕ) (ls : List Line) → Has P (taken_after latest n ls)
    → Has P latest ⊎ Has P (numbered_from n ls)
taken_has P latest n [] h = inl h
taken_has P latest n (l ∷ ls) h = by (taken_has P (numbered n l ∷ latest) (n + 1) ls h)
  where
    by : Has P (numbered n l ∷ latest) ⊎ Has P (numbered_from (n + 1) ls)
        → Has P latest ⊎ Has P (numbered_from n (l ∷ ls))
    by (inl (inl k)) = inr (inl k)
    by (inl (inr k)) = inl k
    by (inr k) = inr (inr k)

pub all_has : (P : Line → Type 0) (n : ℕ) (ls : List Line) → Has P (taken_after [] n ls) → Has P (numbered_from n ls)
all_has P n ls h = elim (taken_has P [] n ls h) [ inl k ↦ absurd k | inr k ↦ k ]

-- The names of a path with the contents of the line x lead to a regular file with these contents.
pub file_there : (j : ℕ) (ls : List Line) (sizes : List ℕ) (p : List ℕ) (q : List (List ℕ)) (x : Line)
    → AreTaken [] j ls → names_of p ≡ Some q → filed (taken_after [] j ls) p ≡ Some x
    → (l : Line)
    × (file_named (numbered_from j ls) sizes q ≡ Some (with_contents (numbered_from j ls) sizes l (Some x)))
unfolding file_at
file_there j ls sizes p q x t e h =
    let all : List Line = numbered_from j ls in
    let r = lead_all [] j ls t (λ p x h. absurd (none_some x h)) p x h in
    let back : filed (reverse all) r.line.path ≡ Some x =
    ap (λ (v : List Line). filed v r.line.path) (sym (all_reversed j ls)) ∙ r.has in
    let here : file_at all sizes p ≡ Some (with_contents all sizes r.line (Some x)) =
    ap (λ (v : List Line). option_map (inode_of all sizes) (led v p)) (sym (all_reversed j ls))
    ∙ (ap (option_map (inode_of all sizes)) r.leads
    ∙ (ap Some (r.makes all sizes) ∙ ap (λ (o : Option Line). Some (with_contents all sizes r.line o)) back)) in
    (r.line, named_at all sizes p q _ e (all_has (λ l. l.path ≡ p) j ls (member _ p x h).path) here)

-- no line from line j on is before an earlier one
none_before : (n j : ℕ) (ls : List Line) → n ≤ j → sources_before n (numbered_from j ls) ≡ 0
none_before n j [] h = refl
none_before n j (l ∷ ls) h =
    let r = none_before n (j + 1) ls (omega (arith, h)) in
    rw (le-ltb j n h) (by (is_file l.word) _ r)
  where
    by : (b : Bool) (k : ℕ) → k ≡ 0 → cond (b && false) (k + 1) k ≡ 0
    by true k e = e
    by false k e = e

abbrev files : List Line → List Line
files ls = filter (λ l. is_file l.word) ls

-- one more line before the others
get_more : (b : Bool) (l : Line) (ls : List Line) (k : ℕ) (o : Option (List ℕ)) → slice_get (sources_of ls) k ≡ o
    → slice_get (map (λ (l : Line). l.text) (cond b (l ∷ files ls) (files ls))) (cond (b && true) (k + 1) k) ≡ o
get_more true l ls k o h = ap (slice_get (l.text ∷ sources_of ls)) (add-one k) ∙ h
get_more false l ls k o h = h

-- the source of a `file` line
record HasSource (j : ℕ) (ls : List Line) (x : Line) : Type 0 where
  behind : j ≤ x.number
  text : slice_get (sources_of (numbered_from j ls)) (sources_before x.number (numbered_from j ls)) ≡ Some x.text

source_at : (j : ℕ) (ls : List Line) (x : Line) → Has (λ l. l ≡ x) (numbered_from j ls) → is_file x.word ≡ true
    → HasSource j ls x
source_at j [] x h f = absurd h
source_at j (l ∷ ls) x (inl e) f = subst (HasSource j (l ∷ ls)) e (own (ap (λ (k : Line). is_file k.word) e ∙ f))
  where
    own : is_file l.word ≡ true → HasSource j (l ∷ ls) (numbered j l)
    own f = record {
      behind = omega arith;
      text = rw (f, le-ltb j j (omega arith), none_before j (j + 1) ls (omega arith)) refl;
    }
source_at j (l ∷ ls) x (inr h) f =
    let r = source_at (j + 1) ls x h f in
    let b = r.behind in
    let rest : List Line = numbered_from (j + 1) ls in
    record {
      behind = omega (arith, b);
      text = rw (lt-ltb j x.number (omega (arith, b)))
          (get_more (is_file l.word) (numbered j l) rest (sources_before x.number rest) (Some x.text) r.text);
    }

-- The line of a path's contents names one of the sources.
pub filed_source : (j : ℕ) (ls : List Line) (p : List ℕ) (x : Line) → filed (taken_after [] j ls) p ≡ Some x
    → slice_get (sources_of (numbered_from j ls)) (sources_before x.number (numbered_from j ls)) ≡ Some x.text
filed_source j ls p x h =
    let m = member (taken_after [] j ls) p x h in
    (source_at j ls x (all_has (λ l. l ≡ x) j ls m.among) m.file).text
