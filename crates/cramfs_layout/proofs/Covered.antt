-- A byte outside all items of names is outside the parts that are laid for them.
use Rattle.std.proofs.Common.{◌≡◌, ℕ, ◌+◌, inl, inr, List, ◌++◌, length, refl, sym, subst, arith}
use Rattle.std.proofs.lemmas.Bool.{cases_lt}
use Rattle.std.proofs.lemmas.Bool.Decides.{eqb_tells}
use Rattle.std.specs.List.{AllByRecursion as Every}
use Rattle.record_forest.proofs.Lists.{every_join, every_left, every_right}
use Rattle.cramfs_format.specs.declared.order.Order.{Order}
use Rattle.cramfs_format.specs.Inode.{block_count}
use Rattle.rom_fields.specs.Parts.{IsOutside}
use Rattle.manifest_tree.specs.Names.{Inode, Names, nothing, leaf, link, subdirectory}
use Rattle.cramfs_layout.specs.Layout.{pad4, entry_len, list_len, list_bytes, State, Kept, nowhere, shared, fresh, kept}
use Rattle.cramfs_layout.specs.Layout.{data_of, file_parts, parts, after_file, after_list, after_names}
use Rattle.cramfs_layout.specs.Items.{kept_item, entries, below}
use Rattle.cramfs_layout.specs.Wells.{IsFile, AreWell}
use Rattle.cramfs_layout.proofs.Super.{length-pointers, length-list}
use Rattle.cramfs_layout.proofs.Shown.{Out, OutOfItem}

both_out : (p l a c : ℕ) → Out p l a → Out p (l + a) c → Out p l (a + c)
both_out p l a c (inl x) y = inl x
both_out p l a c (inr x) (inl y) = absurd (omega arith)
both_out p l a c (inr x) (inr y) = inr (omega arith)

-- the records of a list are the list
pub list_out : (o : Order) (p l : ℕ) (s : State) (n : Names) → Every (OutOfItem p) (entries o l s n)
    → Out p l (list_len n)
list_out o p l s nothing h = elim (cases_lt p l) [ inl a ↦ inl a | inr a ↦ inr (omega arith) ]
list_out o p l s (leaf name i rest) h =
    both_out p l (entry_len name) (list_len rest) h.0.0 (list_out o p (l + entry_len name) (after_file s i) rest h.1)
list_out o p l s (link name i rest) h =
    both_out p l (entry_len name) (list_len rest) h.0.0 (list_out o p (l + entry_len name) (after_file s i) rest h.1)
list_out o p l s (subdirectory name i own rest) h =
    both_out p l (entry_len name) (list_len rest) h.0.0
    (list_out o p (l + entry_len name) (after_names (after_list s own) own) rest h.1)

file_covered : (o : Order) (cs : List (List ℕ)) (p l : ℕ) (name : List ℕ) (s : State) (i : Inode) (k : Kept)
    → IsFile cs i → kept s.tables i ≡ k
    → OutOfItem p (kept_item o l s.at name i k) → Every (IsOutside p) (file_parts o cs k s i)
unfolding kept
file_covered o cs p l name s i nowhere h e out = tt
file_covered o cs p l name s i (shared t) h e out = tt
file_covered o cs p l name s i fresh h e out = elim (eqb_tells i.size 0) [
  | inl y ↦ let z : nowhere ≡ fresh = (rw y.0 at e) in absurd (cc)
  | inr y ↦
      let d = data_of s.at i in
      let both = out.1 y.1 in (
        subst (λ (n : ℕ). Out p (pad4 s.at) n) (sym (length-pointers o d (block_count i.size))) both.0,
        (subst (λ (n : ℕ). Out p d n) (sym h.bytes) both.1, tt),
      )
]

pub covered : (o : Order) (cs : List (List ℕ)) (p l : ℕ) (s : State) (n : Names) → AreWell cs n
    → Every (OutOfItem p) (entries o l s n)
    → Every (OutOfItem p) (below o s n) → Every (IsOutside p) (parts o cs s n)
covered o cs p l s nothing w h u = tt
covered o cs p l s (leaf name i rest) w h u =
    let k = kept s.tables i in
    let s' = after_file s i in
    every_join (IsOutside p) (file_parts o cs k s i) (parts o cs s' rest)
    (file_covered o cs p l name s i k w.1 refl h.0) (covered o cs p (l + entry_len name) s' rest w.2 h.1 u)
covered o cs p l s (link name i rest) w h u = absurd w
covered o cs p l s (subdirectory name i own rest) w h u =
    let s1 = after_list s own in
    let s2 = after_names s1 own in
    let q = pad4 s.at in
    let es = entries o q s1 own in
    let mine = below o s1 own in
    let more = below o s2 rest in
    let here = every_left (OutOfItem p) es (mine ++ more) u in
    let under = every_right (OutOfItem p) es (mine ++ more) u in
    let list : Out p q (length (list_bytes o s1 own)) =
    subst (λ (n : ℕ). Out p q n) (sym (length-list o s1 own)) (list_out o p q s1 own here) in (
      list,
      every_join (IsOutside p) (parts o cs s1 own) (parts o cs s2 rest)
          (covered o cs p q s1 own w.2 here (every_left (OutOfItem p) mine more under))
          (covered o cs p (l + entry_len name) s2 rest w.3 h.1 (every_right (OutOfItem p) mine more under)),
    )
