-- The names of a manifest, from its lines.
use Rattle.std.proofs.Common.{◌≡◌, ◌≢◌, ℕ, Bool, true, false, inl, inr, List, [], ◌∷◌, ◌++◌, Option, Some, None, refl}
use Rattle.std.proofs.Common.{sym, ap, subst, ◌∙◌}
use Rattle.std.specs.List.{AllByRecursion as Every}
use Rattle.std.specs.Option.{option_and_then}
use Rattle.record_forest.specs.Members.{Has, Pairs}
use Rattle.record_forest.proofs.Lists.{every_weaker, every_put, has_put, has_every}
use Rattle.manifest.specs.declared.line.Line.{Line}
use Rattle.manifest.specs.declared.line.Word.{Word}
use Rattle.manifest.specs.declared.line.Word.TheVariants.{Dir, File, Slink, Block, Character, Fifo, Socket, Hard, Same}
use Rattle.manifest.specs.Paths.{names_of, is_bad_path, but_last}
use Rattle.manifest.specs.Lines.{is_dir, is_hard}
use Rattle.manifest.specs.Grammar.{fault_of}
use Rattle.manifest.proofs.Checked.{AreChecked, sound_place}
use Rattle.manifest_tree.specs.Names.{Inode, Names}
use Rattle.manifest_tree.specs.Tree.{What, put_at, what_by, put_line, inode_by, inode_of, with_contents}
use Rattle.manifest_tree.proofs.Found.{found, is_parent}
use Rattle.manifest_tree.proofs.Law.{as_found, found_by, HaveFiles, grown_by, one_more, tree_found, parent_there}
use Rattle.manifest_tree.proofs.Law.{none_named, fewer}
use Rattle.manifest_tree.specs.Files.{files}
use Rattle.manifest_layout.proofs.Sorted.{AreSorted, HoldAll, MoreFiles, put_at_sorted, put_at_hold, put_at_files}
use Rattle.manifest_layout.proofs.Sorted.{last_of}
use Rattle.manifest_layout.proofs.Led.{IsFaultless, HasFile}

-- a line that is not about the root
abbrev pub IsNamed : Line → Type 0
IsNamed l = (m : List ℕ) × (ms : List (List ℕ)) × (names_of l.path ≡ Some (m ∷ ms))

-- a file that one of the lines makes
abbrev pub IsOwned : List Line → Inode → Type 0
IsOwned ls i = Has (λ l. (i.line ≡ l.number) × IsNamed l) ls

pub record IsGrown (P : List ℕ → What → Type 0) (all : List Line) (sizes : List ℕ) (ls : List Line)
    (n : Names) : Type 0 where
  pub sorted : AreSorted n
  pub hold : HoldAll P n
  pub owned : Every (IsOwned ls) (files n)
  pub apart : Pairs (λ i j. i.line ≢ j.line) (files n)
  pub there : Every (λ l. is_hard l.word ≡ false → IsNamed l → Has (λ i. i ≡ inode_of all sizes l) (files n)) ls

-- what the name of a line is to have
abbrev pub Gives : (List ℕ → What → Type 0) → List Line → List ℕ → List Line → Line → Type 0
Gives P all sizes latest l = (h : HasFile all sizes latest l) → (m : List ℕ) (ms : List (List ℕ))
    → names_of l.path ≡ Some (m ∷ ms) → P (last_of m ms) (what_by l.word h.inode)

pub inode_line : (all : List Line) (sizes : List ℕ) (l : Line) → (inode_of all sizes l).line ≡ l.number
unfolding inode_of
inode_line all sizes l = by l.word
  where
    contents : (o : Option Line) → (with_contents all sizes l o).line ≡ l.number
    contents None = refl
    contents (Some o) = refl

    by : (w : Word) → (inode_by all sizes w l).line ≡ l.number
    by Dir = refl
    by File = contents _
    by Slink = refl
    by Block = refl
    by Character = refl
    by Fifo = refl
    by Socket = refl
    by Hard = refl
    by Same = contents _

abbrev OneMore : Inode → List Inode → List Inode → Type 0
OneMore i old new = (xs ys : List Inode) × (old ≡ xs ++ ys) × (new ≡ xs ++ i ∷ ys)

file_more : (w : Word) (i : Inode) (old new : List Inode) → is_hard w ≡ false → MoreFiles (what_by w i) old new
    → OneMore i old new
file_more Dir i old new h m = m
file_more File i old new h m = m
file_more Slink i old new h m = m
file_more Block i old new h m = m
file_more Character i old new h m = m
file_more Fifo i old new h m = m
file_more Socket i old new h m = m
file_more Hard i old new h m = absurd (cc)
file_more Same i old new h m = m

link_more : (w : Word) (i : Inode) (old new : List Inode) → is_hard w ≡ true → MoreFiles (what_by w i) old new
    → old ≡ new
link_more Dir i old new h m = absurd (cc)
link_more File i old new h m = absurd (cc)
link_more Slink i old new h m = absurd (cc)
link_more Block i old new h m = absurd (cc)
link_more Character i old new h m = absurd (cc)
link_more Fifo i old new h m = absurd (cc)
link_more Socket i old new h m = absurd (cc)
link_more Hard i old new h m = m
link_more Same i old new h m = absurd (cc)

-- one more among members that differ from it
pairs_more : {X : Type 0} (R : X → X → Type 0) → ((x y : X) → R x y → R y x) → (xs ys : List X) (x : X)
    → Pairs R (xs ++ ys) → Every (R x) (xs ++ ys) → Pairs R (xs ++ x ∷ ys)
pairs_more R flip [] ys x h e = (e, h)
pairs_more R flip (z ∷ zs) ys x h e = (every_put (R z) zs ys x h.0 (flip x z e.0), pairs_more R flip zs ys x h.1 e.1)

has_here : {X : Type 0} (P : X → Type 0) (xs ys : List X) (x : X) → P x → Has P (xs ++ x ∷ ys)
has_here P [] ys x p = inl p
has_here P (z ∷ zs) ys x p = inr (has_here P zs ys x p)

owned_later : (l : Line) (ls : List Line) (is : List Inode) → Every (IsOwned ls) is → Every (IsOwned (l ∷ ls)) is
owned_later l ls is h = every_weaker (IsOwned ls) (IsOwned (l ∷ ls)) (λ i k. inr k) is h

-- a file of a line differs from those of others, by their numbers
new_line : (l : Line) (ls : List Line) (i : Inode) (is : List Inode) → i.line ≡ l.number
    → Every (λ k. l.number ≢ k.number) ls → Every (IsOwned ls) is → Every (λ j. i.line ≢ j.line) is
new_line l ls i is e far owned = every_weaker (IsOwned ls) (λ j. i.line ≢ j.line) differ is owned
  where
    differ : (j : Inode) → IsOwned ls j → i.line ≢ j.line
    differ j h z =
        let k = has_every (λ k. l.number ≢ k.number) (λ k. (j.line ≡ k.number) × IsNamed k) ls far h in
        k.1 (sym e ∙ z ∙ k.2.0)

not_named : (r : Bool) (o : Option (List (List ℕ))) → is_bad_path r o ≡ false → o ≡ None → ⊥
not_named r None h e = cc
not_named r (Some ns) h e = cc

module _ (P : List ℕ → What → Type 0) (all : List Line) (sizes : List ℕ) (latest : List Line) where
  -- a line about the root adds nothing
  root_line : (l : Line) (ls : List Line) (n : Names) → names_of l.path ≡ Some [] → IsGrown P all sizes ls n
      → IsGrown P all sizes (l ∷ ls) n
  root_line l ls n e g = record {
    sorted = g.sorted;
    hold = g.hold;
    owned = owned_later l ls (files n) g.owned;
    apart = g.apart;
    there = (λ h k. absurd (different k.0 k.1 (sym e ∙ k.2)), g.there);
  } where
    different : (m : List ℕ) (ms : List (List ℕ)) → Some [] ≡ Some (m ∷ ms) → ⊥
    different m ms z = cc

  -- a line with this file and these names
  named_line : (l : Line) (ls : List Line) (n : Names) (h : HasFile all sizes latest l) (m : List ℕ)
      (ms : List (List ℕ))
      → names_of l.path ≡ Some (m ∷ ms) → P (last_of m ms) (what_by l.word h.inode)
      → Every (λ k. l.number ≢ k.number) ls → is_parent (but_last (m ∷ ms)) n ≡ true → found (m ∷ ms) n ≡ None
      → IsGrown P all sizes ls n → IsGrown P all sizes (l ∷ ls) (put_at (what_by l.word h.inode) (m ∷ ms) n)
  named_line l ls n h m ms e p far parent none g = by (is_hard l.word) refl
    where
      w : What
      w = what_by l.word h.inode

      n' : Names
      n' = put_at (what_by l.word h.inode) (m ∷ ms) n

      more : MoreFiles (what_by l.word h.inode) (files n) (files (put_at (what_by l.word h.inode) (m ∷ ms) n))
      more = put_at_files (what_by l.word h.inode) m ms n parent

      by : (b : Bool) → is_hard l.word ≡ b → IsGrown P all sizes (l ∷ ls) (put_at (what_by l.word h.inode) (m ∷ ms) n)
      by true t =
          let same = link_more l.word h.inode (files n) (files (put_at (what_by l.word h.inode) (m ∷ ms) n)) t more in
          record {
            sorted = put_at_sorted (what_by l.word h.inode) m ms n parent none g.sorted;
            hold = put_at_hold P (what_by l.word h.inode) m ms n p g.hold;
            owned = subst (λ is. Every (IsOwned (l ∷ ls)) is) same (owned_later l ls (files n) g.owned);
            apart = subst (λ is. Pairs (λ (i : Inode) (j : Inode). i.line ≢ j.line) is) same g.apart;
            there = (
              λ z k. let v : false ≡ true = sym z ∙ t in absurd (cc),
              subst (λ is. Every (λ (k : Line). is_hard k.word ≡ false → IsNamed k
                  → Has (λ (i : Inode). i ≡ inode_of all sizes k) is) ls) same g.there,
            );
          }
      by false t =
          let o = file_more l.word h.inode (files n) (files (put_at (what_by l.word h.inode) (m ∷ ms) n)) t more in
          let xs = o.0 in
          let ys = o.1 in
          let old : files n ≡ xs ++ ys = o.2 in
          let new : xs ++ h.inode ∷ ys ≡ files (put_at (what_by l.word h.inode) (m ∷ ms) n) = sym o.3 in
          let number : h.inode.line ≡ l.number = ap (λ (i : Inode). i.line) (h.own t) ∙ inode_line all sizes l in
          let owned = subst (λ is. Every (IsOwned ls) is) old g.owned in
          record {
            sorted = put_at_sorted (what_by l.word h.inode) m ms n parent none g.sorted;
            hold = put_at_hold P (what_by l.word h.inode) m ms n p g.hold;
            owned = subst (λ is. Every (IsOwned (l ∷ ls)) is) new
                (every_put (IsOwned (l ∷ ls)) xs ys h.inode (owned_later l ls (xs ++ ys) owned)
                (inl (number, (m, ms, e))));
            apart = subst (λ is. Pairs (λ (i : Inode) (j : Inode). i.line ≢ j.line) is) new
                (pairs_more (λ (i : Inode) (j : Inode). i.line ≢ j.line) (λ i j d z. d (sym z)) xs ys h.inode
                (subst (λ is. Pairs (λ (i : Inode) (j : Inode). i.line ≢ j.line) is) old g.apart)
                (new_line l ls h.inode (xs ++ ys) number far owned));
            there = (
              λ z k. subst (λ is. Has (λ (i : Inode). i ≡ inode_of all sizes l) is) new
                  (has_here (λ (i : Inode). i ≡ inode_of all sizes l) xs ys h.inode (h.own t)),
              every_weaker (λ (k : Line). is_hard k.word ≡ false → IsNamed k
                  → Has (λ (i : Inode). i ≡ inode_of all sizes k) (files n))
                  (λ (k : Line). is_hard k.word ≡ false → IsNamed k
                  → Has (λ (i : Inode). i ≡ inode_of all sizes k) (files (put_at (what_by l.word h.inode) (m ∷ ms) n)))
                  (λ k f a c. subst (λ is. Has (λ (i : Inode). i ≡ inode_of all sizes k) is) new
                  (has_put (λ (i : Inode). i ≡ inode_of all sizes k) xs ys h.inode
                  (subst (λ is. Has (λ (i : Inode). i ≡ inode_of all sizes k) is) old (f a c)))) ls g.there,
            );
          }

  -- one line more
  line_more : (l : Line) (ls : List Line) (n : Names) (h : HasFile all sizes latest l) → fault_of ls l ≡ None
      → IsFaultless l → Gives P all sizes latest l → Every (λ k. l.number ≢ k.number) ls → HaveFiles all sizes ls
      → ((k : List ℕ) (ks : List (List ℕ)) → found (k ∷ ks) n ≡ found_by all sizes ls (k ∷ ks))
      → IsGrown P all sizes ls n → IsGrown P all sizes (l ∷ ls) (put_line l (Some h.inode) (names_of l.path) n)
  line_more l ls n h f clean gives far files same g = by (names_of l.path) refl
    where
      by : (o : Option (List (List ℕ))) → names_of l.path ≡ o
          → IsGrown P all sizes (l ∷ ls) (put_line l (Some h.inode) o n)
      by None e = absurd (not_named (is_dir l.word) (names_of l.path) clean.path e)
      by (Some []) e = root_line l ls n e g
      by (Some (m ∷ ms)) e =
          named_line l ls n h m ms e (gives h m ms e) far (parent_there all sizes l ls m ms n f files e same)
          (same m ms ∙ ap (option_and_then (as_found all sizes)) (none_named ls l.path m ms e (sound_place ls l f).1)) g

  -- the names of lines, from the last to the first
  pub grown_is : (ls : List Line) → AreChecked ls → HaveFiles all sizes ls → Pairs (λ l k. l.number ≢ k.number) ls
      → Every (HasFile all sizes latest) ls → Every IsFaultless ls → Every (Gives P all sizes latest) ls
      → IsGrown P all sizes ls (grown_by all sizes ls)
  grown_is [] c f p h s g = record { sorted = tt; hold = tt; owned = tt; apart = tt; there = tt }
  grown_is (l ∷ ls) c f p h s g =
      let fs = fewer all sizes l ls f in
      let below = grown_is ls c.1 fs p.1 h.1 s.1 g.1 in
      let one = line_more l ls (grown_by all sizes ls) h.0 c.0 s.0 g.0 p.0 fs (tree_found all sizes ls c.1 fs) below in
      subst (IsGrown P all sizes (l ∷ ls))
      (sym (one_more all sizes l ls ∙ ap (λ o. put_line l o (names_of l.path) (grown_by all sizes ls)) h.0.is)) one
