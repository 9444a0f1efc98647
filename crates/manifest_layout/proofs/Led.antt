-- What the path of a line leads to, among all lines, and that a line has no fault.
use Rattle.std.proofs.Common.{◌≡◌, ℕ, ◌||◌, ◌&&◌, not, Bool, true, false, inl, inr, cond, List, [], ◌∷◌, reverse}
use Rattle.std.proofs.Common.{Option, Some, None, refl, sym, ap, subst, ◌∙◌}
use Rattle.std.specs.Cmp.Lexicographic.{bytes_decides, nat_list_eq_equiv}
use Rattle.std.specs.List.{AllByRecursion as Every}
use Rattle.std.specs.Option.{option_map, is_some}
use Rattle.std.specs.Str.{bytes_eq}
use Rattle.record_forest.specs.Members.{Has}
use Rattle.record_forest.proofs.Lists.{every_weaker, every_both}
use Rattle.manifest.specs.declared.line.Line.{Line}
use Rattle.manifest.specs.declared.line.Word.{Word}
use Rattle.manifest.specs.declared.line.Word.TheVariants.{Dir, File, Slink, Block, Character, Fifo, Socket, Hard, Same}
use Rattle.manifest.specs.declared.error.TheConstants.{BAD_PATH, NO_PARENT, EXISTS, BAD_ALIGN}
use Rattle.manifest.specs.Paths.{names_of, is_bad_path, parent_of}
use Rattle.manifest.specs.Lines.{is_dir, is_file, is_hard, is_same, line_at, led, filed}
use Rattle.manifest.specs.Grammar.{fault_of, is_bad_text, is_align, has_parent, has_target, is_target}
use Rattle.manifest.proofs.Adding.{sound_target}
use Rattle.manifest.proofs.Checked.{AreChecked, sound_place}
use Rattle.manifest_layout.proofs.Bools.{same_some}
use Rattle.manifest_tree.specs.Names.{Inode}
use Rattle.manifest_tree.specs.Tree.{inode_of, file_at}

-- a line that a path leads to is one of the lines, and no `hard` line
pub led_member : (ls : List Line) (p : List ℕ) (k : Line) → led ls p ≡ Some k
    → Has (λ x. x ≡ k) ls × (is_hard k.word ≡ false)
led_member [] p k e = absurd (cc)
led_member (l ∷ ls) p k e = elim (bytes_eq l.path p) as
    (λ t. cond t (cond (is_hard l.word) (led ls l.text) (Some l)) (led ls p) ≡ Some k
    → Has (λ x. x ≡ k) (l ∷ ls) × (is_hard k.word ≡ false)) [
      | true ↦ λ g. elim (is_hard l.word) as
          (λ h. is_hard l.word ≡ h → cond h (led ls l.text) (Some l) ≡ Some k
          → Has (λ x. x ≡ k) (l ∷ ls) × (is_hard k.word ≡ false)) [
            | true ↦ λ i j. let r = led_member ls l.text k j in (inr r.0, r.1)
            | false ↦ λ i j. (inl (same_some j), subst (λ (x : Line). is_hard x.word ≡ false) (same_some j) i)
          ] refl g
      | false ↦ λ g. let r = led_member ls p k g in (inr r.0, r.1)
    ] e

pub filed_member : (ls : List Line) (p : List ℕ) (k : Line) → filed ls p ≡ Some k
    → Has (λ x. x ≡ k) ls × (is_file k.word ≡ true)
filed_member [] p k e = absurd (cc)
filed_member (l ∷ ls) p k e = elim (bytes_eq l.path p) as
    (λ t. cond t (cond (is_hard l.word || is_same l.word) (filed ls l.text) (cond (is_file l.word) (Some l) None))
    (filed ls p) ≡ Some k → Has (λ x. x ≡ k) (l ∷ ls) × (is_file k.word ≡ true)) [
      | true ↦ λ g. elim (is_hard l.word || is_same l.word) as
          (λ h. cond h (filed ls l.text) (cond (is_file l.word) (Some l) None) ≡ Some k
          → Has (λ x. x ≡ k) (l ∷ ls) × (is_file k.word ≡ true)) [
            | true ↦ λ j. let r = filed_member ls l.text k j in (inr r.0, r.1)
            | false ↦ λ j. elim (is_file l.word) as
                (λ h. is_file l.word ≡ h → cond h (Some l) None ≡ Some k
                → Has (λ x. x ≡ k) (l ∷ ls) × (is_file k.word ≡ true)) [
                  | true ↦ λ a b. (inl (same_some b), subst (λ (x : Line). is_file x.word ≡ true) (same_some b) a)
                  | false ↦ λ a b. absurd (cc)
                ] refl j
          ] g
      | false ↦ λ g. let r = filed_member ls p k g in (inr r.0, r.1)
    ] e

-- the line to which the path of a line leads
pub record LedIn (all : List Line) (l : Line) : Type 0 where
  pub own : is_hard l.word ≡ false → led all l.path ≡ Some l
  pub other : is_hard l.word ≡ true
      → (k : Line) × (led all l.path ≡ Some k) × Has (λ x. x ≡ k) all × (is_hard k.word ≡ false)
      × (is_dir k.word ≡ false)

pub no_path : (ls : List Line) (p : List ℕ) → is_some (line_at ls p) ≡ false → Every (λ k. bytes_eq k.path p ≡ false) ls
no_path [] p h = tt
no_path (l ∷ ls) p h = elim (bytes_eq l.path p) as
    (λ t. bytes_eq l.path p ≡ t → is_some (cond t (Some l) (line_at ls p)) ≡ false
    → (bytes_eq l.path p ≡ false) × Every (λ k. bytes_eq k.path p ≡ false) ls) [
      | true ↦ λ e g. absurd (cc)
      | false ↦ λ e g. (e, no_path ls p g)
    ] refl h

-- a `hard` line's text leads to a line that makes a file
hard_target : (ls : List Line) (l : Line) → is_hard l.word ≡ true → has_target ls l.word l.text ≡ true
    → is_target (led ls l.text) ≡ true
hard_target ls l h g = by l.word h g
  where
    by : (w : Word) → is_hard w ≡ true → has_target ls w l.text ≡ true → is_target (led ls l.text) ≡ true
    by Dir h g = absurd (cc)
    by File h g = absurd (cc)
    by Slink h g = absurd (cc)
    by Block h g = absurd (cc)
    by Character h g = absurd (cc)
    by Fifo h g = absurd (cc)
    by Socket h g = absurd (cc)
    by Hard h g = g
    by Same h g = absurd (cc)

not_false : (b : Bool) → not b ≡ true → b ≡ false
not_false true h = absurd (cc)
not_false false h = refl

pub all_led : (ls : List Line) → AreChecked ls → Every (LedIn ls) ls
all_led [] c = tt
all_led (l ∷ ls) c = (
  here,
  every_weaker (λ k. LedIn ls k × (bytes_eq k.path l.path ≡ false)) (LedIn (l ∷ ls)) past ls
      (every_both (LedIn ls) (λ k. bytes_eq k.path l.path ≡ false) ls (all_led ls c.1)
      (no_path ls l.path (sound_place ls l c.0).1)),
)
  where
    self : bytes_eq l.path l.path ≡ true
    self = (bytes_decides l.path l.path).1 refl

    target : (o : Option Line) → led ls l.text ≡ o → is_target o ≡ true → led (l ∷ ls) l.path ≡ o
        → (k : Line) × (led (l ∷ ls) l.path ≡ Some k) × Has (λ x. x ≡ k) (l ∷ ls) × (is_hard k.word ≡ false)
        × (is_dir k.word ≡ false)
    target None e t g = absurd (cc)
    target (Some k) e t g = let r = led_member ls l.text k e in (k, g, inr r.0, r.1, not_false (is_dir k.word) t)

    here : LedIn (l ∷ ls) l
    here = record {
      own = λ h. rw (self, h) refl;
      other = λ h. target (led ls l.text) refl (hard_target ls l h (sound_target ls l c.0)) (rw (self, h) refl);
    }

    past : (k : Line) → LedIn ls k × (bytes_eq k.path l.path ≡ false) → LedIn (l ∷ ls) k
    past k (h, n) =
        let m : bytes_eq l.path k.path ≡ false = nat_list_eq_equiv.symm l.path k.path ∙ n in
        let same : led (l ∷ ls) k.path ≡ led ls k.path = rw m refl in
        record { own = λ e. same ∙ h.own e; other = λ e. let o = h.other e in (o.0, same ∙ o.1, inr o.2, o.3, o.4) }

-- what a line without a fault has
pub record IsFaultless (l : Line) : Type 0 where
  pub path : is_bad_path (is_dir l.word) (names_of l.path) ≡ false
  pub text : is_bad_text l.word l.text ≡ false
  pub align : is_file l.word ≡ true → is_align l.align ≡ true

faultless : (ls : List Line) (l : Line) → fault_of ls l ≡ None → IsFaultless l
unfolding fault_of
faultless ls l h =
    by (is_bad_path (is_dir l.word) (names_of l.path)) (is_bad_text l.word l.text)
    (not (has_parent ls (parent_of (names_of l.path)))) (is_some (line_at ls l.path)) (is_file l.word)
    (is_align l.align) _ refl refl refl refl h
  where
    by : (a b c d e f : Bool) (o : Option ℕ) → is_bad_path (is_dir l.word) (names_of l.path) ≡ a
        → is_bad_text l.word l.text ≡ b → is_file l.word ≡ e → is_align l.align ≡ f
        → cond (a || b) (Some BAD_PATH) (cond c (Some NO_PARENT)
        (cond d (Some EXISTS) (cond (e && not f) (Some BAD_ALIGN) o))) ≡ None
        → IsFaultless l
    by true b c d e f o p q r s g = absurd (cc)
    by false true c d e f o p q r s g = absurd (cc)
    by false false true d e f o p q r s g = absurd (cc)
    by false false false true e f o p q r s g = absurd (cc)
    by false false false false true true o p q r s g = record { path = p; text = q; align = λ z. s }
    by false false false false true false o p q r s g = absurd (cc)
    by false false false false false f o p q r s g =
        record { path = p; text = q; align = λ z. let w : false ≡ true = sym r ∙ z in absurd (cc) }

pub all_faultless : (ls : List Line) → AreChecked ls → Every IsFaultless ls
all_faultless [] c = tt
all_faultless (l ∷ ls) c = (faultless ls l c.0, all_faultless ls c.1)

-- the file at the path of a line: that of the line, or of another if it is `hard`
pub record HasFile (all : List Line) (sizes : List ℕ) (latest : List Line) (l : Line) : Type 0 where
  pub inode : Inode
  pub is : file_at all sizes l.path ≡ Some inode
  pub own : is_hard l.word ≡ false → inode ≡ inode_of all sizes l
  pub other : is_hard l.word ≡ true
      → (k : Line) × (inode ≡ inode_of all sizes k) × Has (λ x. x ≡ k) latest × (is_hard k.word ≡ false)
      × (is_dir k.word ≡ false)

pub has_file : (all : List Line) (sizes : List ℕ) (latest : List Line) (l : Line) → reverse all ≡ latest
    → LedIn latest l → HasFile all sizes latest l
unfolding file_at
has_file all sizes latest l e h = by (is_hard l.word) refl
  where
    at_path : led latest l.path ≡ led (reverse all) l.path
    at_path = ap (λ (ls : List Line). led ls l.path) (sym e)

    by : (b : Bool) → is_hard l.word ≡ b → HasFile all sizes latest l
    by true g = let o = h.other g in record {
      inode = inode_of all sizes o.0;
      is = ap (option_map (inode_of all sizes)) (sym at_path ∙ o.1);
      own = λ z. let w : false ≡ true = sym z ∙ g in absurd (cc);
      other = λ z. (o.0, refl, o.2, o.3, o.4);
    }
    by false g = record {
      inode = inode_of all sizes l;
      is = ap (option_map (inode_of all sizes)) (sym at_path ∙ h.own g);
      own = λ z. refl;
      other = λ z. let w : false ≡ true = sym g ∙ z in absurd (cc);
    }
