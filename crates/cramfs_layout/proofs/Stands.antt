-- The entries of a layout are in its bytes.
use Rattle.std.proofs.Common.{◌≡◌, ◌≢◌, ℕ, ◌+◌, ◌<◌, ◌≤◌, List, refl, sym, ap, subst, ◌∙◌, arith, Some, None}
use Rattle.std.proofs.lemmas.Bool.{ne_eqb, eq-eqb, le-ltb, lt-ltb}
use Rattle.rom_tree.specs.declared.types.Kind.{Kind}
use Rattle.rom_tree.specs.declared.types.Kind.TheVariants.{Directory, Regular, Symlink, Block, Character, Socket, Fifo}
use Rattle.record_forest.specs.Forest.{Stands}
use Rattle.cramfs_format.specs.declared.order.Order.{Order}
use Rattle.cramfs_format.specs.Inode.{type_of, size_of, offset_of, list_start, list_end}
use Rattle.cramfs_format.specs.Refers.{reference_target, references}
use Rattle.manifest_tree.specs.Names.{Inode, Names, nothing, leaf, link, subdirectory}
use Rattle.cramfs_layout.specs.Layout.{pad4, type_bits, entry_len, list_len, list_offset, State, after_file, after_list}
use Rattle.cramfs_layout.specs.Layout.{after_names}
use Rattle.cramfs_layout.specs.Wells.{FitsKind, IsFile, AreWell, AllRead}
use Rattle.cramfs_layout.specs.Forest.{spots}
use Rattle.cramfs_layout.proofs.Stored.{file_onward, names_onward}

-- a file is no directory
pub type_by : (k : Kind) (i : Inode) → FitsKind k i → type_bits k ≢ 4
type_by Directory i h = absurd h
type_by Regular i h = λ e. absurd (omega arith)
type_by Symlink i h = λ e. absurd (omega arith)
type_by Block i h = λ e. absurd (omega arith)
type_by Character i h = λ e. absurd (omega arith)
type_by Socket i h = λ e. absurd (omega arith)
type_by Fifo i h = λ e. absurd (omega arith)

pub file_list : (o : Order) (b : List ℕ) (cs : List (List ℕ)) (p : ℕ) (i : Inode) → IsFile cs i
    → type_of o b p ≡ type_bits i.kind → list_end o b p ≡ 0
unfolding list_end
file_list o b cs p i h t = rw (ne_eqb (type_of o b p) 4 (λ z. type_by i.kind i h.kind (sym t ∙ z))) refl

pub directory_list : (o : Order) (b : List ℕ) (p offset size : ℕ) → type_of o b p ≡ 4 → offset_of o b p ≡ offset
    → size_of o b p ≡ size → list_end o b p ≡ offset + size
unfolding list_end
directory_list o b p offset size t e f = rw (eq-eqb (type_of o b p) 4 t, e, f) refl

pub target_none : (o : Order) (b : List ℕ) (d l : ℕ) → d ≢ 0 → list_end o b d ≤ l
    → reference_target o b (record { source = d; which = l }) ≡ None
unfolding reference_target
target_none o b d l live e = rw (ne_eqb d 0 live, le-ltb l (list_end o b d) e) refl

pub target_some : (o : Order) (b : List ℕ) (d l : ℕ) → d ≢ 0 → l < list_end o b d
    → reference_target o b (record { source = d; which = l }) ≡ Some l
unfolding reference_target
target_some o b d l live e = rw (ne_eqb d 0 live, lt-ltb l (list_end o b d) e) refl

-- an empty list, or one that has an offset
pub data IsPlaced (from : ℕ) (own : Names) : Type 0 where
  empty : own ≡ nothing → IsPlaced from own
  at_place : list_offset from own ≡ pad4 from → IsPlaced from own

pub is_placed : (from : ℕ) (own : Names) → IsPlaced from own
is_placed from nothing = empty refl
is_placed from (leaf name i after) = at_place refl
is_placed from (link name i after) = at_place refl
is_placed from (subdirectory name i own after) = at_place refl

pub stands : (o : Order) (b : List ℕ) (cs : List (List ℕ)) (high d l : ℕ) (s : State) (n : Names) → AreWell cs n
    → AllRead o b cs high l s n → d ≢ 0 → 0 < l → 0 < s.at → list_end o b d ≡ l + list_len n
    → Stands (references o b) (record { source = d; which = l }) (spots l s n)
unfolding list_start
stands o b cs high d l s nothing h r live pos up e = target_none o b d l live (omega (arith, e))
stands o b cs high d l s (leaf name i rest) h r live pos up e =
    let l' = l + entry_len name in
    let later = stands o b cs high d l' (after_file s i) rest h.2 r.2 live (omega arith)
    (let a = file_onward cs s i h.1 in omega (arith, a)) (omega (arith, e)) in
    let list = file_list o b cs l i h.1 r.0.type in (
      target_some o b d l live (omega (arith, e)),
      target_none o b l (offset_of o b l) (λ z. absurd (omega (arith, z, pos))) (omega (arith, list)),
      subst (λ (v : ℕ). Stands (references o b) (record { source = d; which = v }) (spots l' (after_file s i) rest))
          (sym r.0.end) later,
    )
stands o b cs high d l s (link name i rest) h r live pos up e = absurd h
stands o b cs high d l s (subdirectory name i own rest) h r live pos up e =
    let l' = l + entry_len name in
    let s1 = after_list s own in
    let s' = after_names s1 own in
    let later = stands o b cs high d l' s' rest h.3 r.2 live (omega arith)
    (let a = names_onward cs s1 own h.2 in omega (arith, a)) (omega (arith, e)) in
    let alive : l ≢ 0 = λ z. absurd (omega (arith, z, pos)) in
    let list = directory_list o b l (list_offset s.at own) (list_len own)
    (r.0.type ∙ ap type_bits h.1.kind) r.0.offset_is r.0.size_is in
    let mine : Stands (references o b) (record { source = l; which = offset_of o b l }) (spots (pad4 s.at) s1 own) =
    elim (is_placed s.at own) [
      | empty z ↦ subst (λ (m : Names). Stands (references o b) (record { source = l; which = offset_of o b l })
          (spots (pad4 s.at) (after_list s m) m)) (sym z)
          (target_none o b l (offset_of o b l) alive
          (let y : list_len own ≡ 0 = ap list_len z in let x = r.0.offset_is in omega (arith, list, y, x)))
      | at_place z ↦ subst (λ (v : ℕ). Stands (references o b) (record { source = l; which = v })
          (spots (pad4 s.at) s1 own)) (sym (r.0.offset_is ∙ z))
          (stands o b cs high l (pad4 s.at) s1 own h.2 r.1 alive (omega arith) (omega arith) (omega (arith, list, z)))
    ] in (
      target_some o b d l live (omega (arith, e)),
      mine,
      subst (λ (v : ℕ). Stands (references o b) (record { source = d; which = v }) (spots l' s' rest))
          (sym r.0.end) later,
    )
