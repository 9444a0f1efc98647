-- The known facts of the lines of a manifest if none of them has a misfit in a format.
use Rattle.std.proofs.Common.{◌≡◌, ◌≢◌, ℕ, ◌<◌, not, Bool, true, false, inl, inr, cond, List, [], ◌∷◌, ◌++◌, reverse}
use Rattle.std.proofs.Common.{Option, Some, None, refl, sym, ap, subst, ◌∙◌, arith}
use Rattle.std.proofs.lemmas.List.{reverse-append, reverse-reverse}
use Rattle.std.specs.Cmp.Lexicographic.{bytes_decides}
use Rattle.std.specs.List.{AllByRecursion as Every}
use Rattle.std.specs.Option.{option_map}
use Rattle.std.specs.Str.{bytes_eq}
use Rattle.rom_fields.specs.declared.fault.Fault.{Fault}
use Rattle.record_forest.specs.Faults.{IsNone}
use Rattle.record_forest.specs.Members.{Has, Pairs}
use Rattle.record_forest.proofs.Lists.{every_weaker, every_of, every_left, every_right, has_every, has_weaker}
use Rattle.record_forest.proofs.Lists.{pairs_pick}
use Rattle.manifest.specs.declared.line.Line.{Line}
use Rattle.manifest.specs.Paths.{names_of, is_bad_path}
use Rattle.manifest.specs.Texts.{is_bad}
use Rattle.manifest.specs.Grammar.{IsManifest}
use Rattle.manifest.specs.Lines.{ManifestLines, is_dir, is_file, is_hard, led}
use Rattle.manifest.proofs.Checked.{AreChecked, checked_lines}
use Rattle.manifest_tree.specs.Names.{Inode}
use Rattle.manifest_tree.specs.Tree.{inode_of, file_at, root_of, bare_root, or_else}
use Rattle.manifest_tree.proofs.Law.{HaveFiles, have_files}
use Rattle.manifest_layout.proofs.Bools.{same_some, dir_not_hard}
use Rattle.formats.specs.Format.{Format}
use Rattle.manifest_layout.specs.Misfit.{HasMisfit, HasLineMisfit, of_line}
use Rattle.manifest_layout.proofs.Written.{IsLine, IsWritten, written}
use Rattle.manifest_layout.proofs.Led.{LedIn, all_led, led_member, IsFaultless, all_faultless, HasFile, has_file}
use Rattle.manifest_layout.proofs.Grown.{IsNamed, IsOwned, inode_line}
use Rattle.manifest_layout.proofs.Aligned.{IsAligned, is_aligned}

every_reverse : {X : Type 0} (P : X → Type 0) → (xs : List X) → Every P (reverse xs) → Every P xs
every_reverse P [] h = tt
every_reverse P (x ∷ xs) h =
    let g : Every P (reverse xs ++ x ∷ []) = subst (Every P) (reverse-append (x ∷ []) xs) h in
    ((every_right P (reverse xs) (x ∷ []) g).0, every_reverse P xs (every_left P (reverse xs) (x ∷ []) g))

-- no misfit of this line
abbrev pub Fits : Format → ManifestLines → List ℕ → Line → Type 0
Fits f m sizes l = (k : ℕ) → HasMisfit f m sizes l k → ⊥

lines_fit : (f : Format) (m : ManifestLines) (sizes : List ℕ) → IsNone (HasLineMisfit f m sizes)
    → Every (Fits f m sizes) m.lines
lines_fit f m sizes h = every_of (Fits f m sizes) m.lines none
  where
    fault : ℕ → ℕ → Fault
    fault number at = record { number = number; at = at }

    none : (l : Line) → Has (λ y. y ≡ l) m.lines → Fits f m sizes l
    none l here k x =
        h (record { number = k; at = l.number })
        (of_line (has_weaker (λ y. y ≡ l) (λ y. (l.number ≡ y.number) × HasMisfit f m sizes y k)
        (λ y e. (
          ap (λ (z : Line). z.number) (sym e),
          subst (λ (z : Line). HasMisfit f m sizes z k) (sym e) x,
        )) m.lines here))

-- the lines of a manifest from the last to the first, and what is known of them
pub record IsKnown (f : Format) (m : ManifestLines) (sizes : List ℕ) (latest : List Line) : Type 0 where
  pub reversed : m.lines ≡ reverse latest
  pub back : reverse m.lines ≡ latest
  pub checked : AreChecked latest
  pub have : HaveFiles m.lines sizes latest
  pub lines : Every IsLine latest
  pub numbered : Every (λ l. 0 < l.number) latest
  pub apart : Pairs (λ l k. l.number ≢ k.number) latest
  pub faultless : Every IsFaultless latest
  pub fit : Every (Fits f m sizes) latest
  pub files : Every (HasFile m.lines sizes latest) latest
  pub aligned : Every (λ k. is_file k.word ≡ true → IsAligned k.align) (reverse m.lines)
  pub volume : is_bad 255 m.volume ≡ false

pub known : (f : Format) (m : ManifestLines) (sizes : List ℕ) → IsManifest m → IsNone (HasLineMisfit f m sizes)
    → (latest : List Line) × IsKnown f m sizes latest
known f m sizes h n =
    let c = checked_lines m h.0 h.1 in
    let w = written m h.0 h.1 in
    let back : reverse m.lines ≡ c.latest = ap reverse c.reversed ∙ reverse-reverse c.latest in
    let same : w.0 ≡ c.latest = sym (ap reverse w.1.reversed ∙ reverse-reverse w.0) ∙ back in
    let v : IsWritten m c.latest = subst (IsWritten m) same w.1 in
    let faultless = all_faultless c.latest c.checked in (
      c.latest,
      record {
        reversed = c.reversed;
        back = back;
        checked = c.checked;
        have = have_files m sizes c.latest c.reversed c.checked;
        lines = v.lines;
        numbered = v.numbered;
        apart = v.apart;
        faultless = faultless;
        fit = every_reverse (Fits f m sizes) c.latest
            (subst (Every (Fits f m sizes)) c.reversed (lines_fit f m sizes n));
        files = every_weaker (LedIn c.latest) (HasFile m.lines sizes c.latest)
            (λ l k. has_file m.lines sizes c.latest l back k) c.latest (all_led c.latest c.checked);
        aligned = subst (Every (λ (k : Line). is_file k.word ≡ true → IsAligned k.align)) (sym back)
            (every_weaker IsFaultless (λ (k : Line). is_file k.word ≡ true → IsAligned k.align)
            (λ k x e. is_aligned k.align (x.align e)) c.latest faultless);
        volume = v.volume;
      },
    )

-- a line that is no `dir` is not about the root
pub named_file : (l : Line) → IsFaultless l → is_dir l.word ≡ false → IsNamed l
named_file l h d = by (names_of l.path) refl
  where
    bad : is_bad_path false (names_of l.path) ≡ false
    bad = ap (λ (b : Bool). is_bad_path b (names_of l.path)) (sym d) ∙ h.path

    by : (o : Option (List (List ℕ))) → names_of l.path ≡ o → IsNamed l
    by None e = let z : true ≡ false = sym (ap (is_bad_path false) e) ∙ bad in absurd (cc)
    by (Some []) e = let z : true ≡ false = sym (ap (is_bad_path false) e) ∙ bad in absurd (cc)
    by (Some (m ∷ ms)) e = (m, ms, e)

root_names : names_of (47 ∷ []) ≡ Some []
unfolding names_of
root_names = refl

-- the root's path leads to a `dir` line about the root, if to any
root_led : (ls : List Line) (k : Line) → Every IsFaultless ls → led ls (47 ∷ []) ≡ Some k
    → (is_dir k.word ≡ true) × (names_of k.path ≡ Some [])
root_led [] k h e = absurd (cc)
root_led (l ∷ ls) k h e = elim (bytes_eq l.path (47 ∷ [])) as
    (λ t. bytes_eq l.path (47 ∷ []) ≡ t
    → cond t (cond (is_hard l.word) (led ls l.text) (Some l)) (led ls (47 ∷ [])) ≡ Some k
    → (is_dir k.word ≡ true) × (names_of k.path ≡ Some [])) [
      | true ↦ λ p g.
          let names : names_of l.path ≡ Some [] = ap names_of ((bytes_decides l.path (47 ∷ [])).0 p) ∙ root_names in
          let dir : is_dir l.word ≡ true =
          is_true (is_dir l.word) (sym (ap (is_bad_path (is_dir l.word)) names) ∙ h.0.path) in
          let same : l ≡ k =
          same_some (sym (ap (λ (b : Bool). cond b (led ls l.text) (Some l)) (dir_not_hard l.word dir)) ∙ g) in (
            subst (λ (x : Line). is_dir x.word ≡ true) same dir,
            subst (λ (x : Line). names_of x.path ≡ Some []) same names,
          )
      | false ↦ λ p g. root_led ls k h.1 g
    ] refl e
  where
    is_true : (b : Bool) → not b ≡ false → b ≡ true
    is_true true e = refl
    is_true false e = absurd (cc)

-- the root is that of no line, or of a `dir` line about it
pub data RootIs (m : ManifestLines) (sizes : List ℕ) (latest : List Line) : Type 0 where
  bare : root_of m.lines sizes ≡ bare_root → RootIs m sizes latest
  by_line : (k : Line) → root_of m.lines sizes ≡ inode_of m.lines sizes k → Has (λ x. x ≡ k) latest
      → is_dir k.word ≡ true → names_of k.path ≡ Some [] → RootIs m sizes latest

pub root_is : (m : ManifestLines) (sizes : List ℕ) (latest : List Line) → reverse m.lines ≡ latest
    → Every IsFaultless latest → RootIs m sizes latest
unfolding root_of file_at
root_is m sizes latest back h = by (led latest (47 ∷ [])) refl
  where
    at_root : led (reverse m.lines) (47 ∷ []) ≡ led latest (47 ∷ [])
    at_root = ap (λ (ls : List Line). led ls (47 ∷ [])) back

    by : (o : Option Line) → led latest (47 ∷ []) ≡ o → RootIs m sizes latest
    by None e = bare (ap (λ (o : Option Line). or_else bare_root (option_map (inode_of m.lines sizes) o)) (at_root ∙ e))
    by (Some k) e =
        let r = root_led latest k h e in
        by_line k (ap (λ (o : Option Line). or_else bare_root (option_map (inode_of m.lines sizes) o)) (at_root ∙ e))
        (led_member latest (47 ∷ []) k e).0 r.0 r.1

-- no file below the root is of its line
pub root_apart : (m : ManifestLines) (sizes : List ℕ) (latest : List Line) (is : List Inode) → RootIs m sizes latest
    → Every (λ l. 0 < l.number) latest → Pairs (λ l k. l.number ≢ k.number) latest
    → Every (IsOwned latest) is → Every (λ j. (root_of m.lines sizes).line ≢ j.line) is
root_apart m sizes latest is (bare e) pos apart owned =
    every_weaker (IsOwned latest) (λ j. (root_of m.lines sizes).line ≢ j.line) differ is owned
  where
    number : (root_of m.lines sizes).line ≡ 0
    number = ap (λ (i : Inode). i.line) e

    differ : (j : Inode) → IsOwned latest j → (root_of m.lines sizes).line ≢ j.line
    differ j h z =
        let k = has_every (λ l. 0 < l.number) (λ l. (j.line ≡ l.number) × IsNamed l) latest pos h in
        let p = k.1 in
        let q = k.2.0 in
        absurd (omega (arith, p, q, number, z))
root_apart m sizes latest is (by_line k e here d names) pos apart owned =
    every_weaker (IsOwned latest) (λ j. (root_of m.lines sizes).line ≢ j.line) differ is owned
  where
    number : (root_of m.lines sizes).line ≡ k.number
    number = ap (λ (i : Inode). i.line) e ∙ inode_line m.lines sizes k

    clash : (m' : List ℕ) (ms : List (List ℕ)) → Some [] ≡ Some (m' ∷ ms) → ⊥
    clash m' ms z = cc

    differ : (j : Inode) → IsOwned latest j → (root_of m.lines sizes).line ≢ j.line
    differ j h z = elim (pairs_pick (λ (l : Line) (k : Line). l.number ≢ k.number) (λ x. x ≡ k)
        (λ l. (j.line ≡ l.number) × IsNamed l) latest apart here h) [
          | inl s ↦ clash s.2.1.0 s.2.1.1 (sym (ap (λ (x : Line). names_of x.path) s.1 ∙ names) ∙ s.2.1.2)
          | inr s ↦
              let a : s.0.number ≡ s.1.number = ap (λ (x : Line). x.number) s.2 ∙ sym number ∙ z ∙ s.3.0 in
              elim s.4 [ inl n ↦ n a | inr n ↦ n (sym a) ]
        ]
