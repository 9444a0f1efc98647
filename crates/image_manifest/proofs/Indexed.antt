-- The members of an image by their indices.
use Rattle.std.proofs.Common.{◌≡◌, ℕ, zero, suc, ◌<◌, Bool, true, false, cond, List, [], ◌∷◌, ◌++◌, length, take}
use Rattle.std.proofs.Common.{get_or}
use Rattle.std.proofs.Common.{Option, Some, None, option_map, refl, sym, ap, subst, ◌∙◌, append_assoc, append-nil}
use Rattle.std.proofs.Common.{arith}
use Rattle.std.specs.Prelude.{◌==◌}
use Rattle.std.proofs.lemmas.Bool.{eqb-true}
use Rattle.rom_tree.specs.Image.{Image}
use Rattle.rom_tree.specs.Names.{Name}
use Rattle.rom_tree.specs.Tree.{ino_of}
use Rattle.image_manifest.specs.Members.{place_of}
use Rattle.image_manifest.specs.ExtractedMembers.{member_behind, members_behind}
use Rattle.image_manifest.specs.declared.giving.Giving.{Giving}
use Rattle.tree_extract.specs.Members.{member_at}

pub length-members : (g : Giving) (m : Image) (before ns : List Name)
    → length (members_behind g m before ns) ≡ length ns
length-members g m before [] = refl
length-members g m before (n ∷ ns) = ap suc (length-members g m (before ++ n ∷ []) ns)

pub member_is : (g : Giving) (m : Image) (before ns : List Name) (i : ℕ) (e : Name) → i < length ns
    → member_at (members_behind g m before ns) i ≡ member_behind g m (before ++ take i ns) (get_or ns i e)
member_is g m before [] i e h = absurd (omega (arith, h))
member_is g m before (n ∷ ns) zero e h = ap (λ (v : List Name). member_behind g m v n) (sym (append-nil before))
member_is g m before (n ∷ ns) (suc i) e h =
    member_is g m (before ++ n ∷ []) ns i e (omega (arith, h))
    ∙ ap (λ (v : List Name). member_behind g m v (get_or ns i e)) (append_assoc before (n ∷ []) (take i ns))

-- the place of the first name of a node
pub record IsFirst (number : ℕ) (ns : List Name) (i : ℕ) (e : Name) : Type 0 where
  pub within : i < length ns
  pub number_is : ino_of (get_or ns i e).node ≡ number
  pub none_before : place_of number (take i ns) ≡ None

-- what a number behind it was
before_suc : (o : Option ℕ) (i : ℕ) → option_map suc o ≡ Some i → (g : ℕ) × (suc g ≡ i) × (o ≡ Some g)
before_suc None i h = absurd (cc)
before_suc (Some g) i h = (g, cc, refl)

some_same : (a b : ℕ) → Some a ≡ Some b → a ≡ b
some_same a b h = cc

pub first_place : (number : ℕ) (ns : List Name) (i : ℕ) (e : Name) → place_of number ns ≡ Some i → IsFirst number ns i e
first_place number [] i e h = absurd (cc)
first_place number (n ∷ ns) i e h = by (λ k g. first_place number ns k e g) (ino_of n.node == number) refl h
  where
    by : ((k : ℕ) → place_of number ns ≡ Some k → IsFirst number ns k e) → (b : Bool) → (ino_of n.node == number) ≡ b
        → cond b (Some 0) (option_map suc (place_of number ns)) ≡ Some i → IsFirst number (n ∷ ns) i e
    by below true is g = subst (λ k. IsFirst number (n ∷ ns) k e) (some_same 0 i g)
        (record { within = omega arith; number_is = eqb-true _ _ is; none_before = refl })
    by below false is g =
        let later = before_suc (place_of number ns) i g in
        let it = below later.0 later.2 in
        subst (λ k. IsFirst number (n ∷ ns) k e) later.1 (record {
          within = omega (arith, it.within);
          number_is = it.number_is;
          none_before = ap (λ (b : Bool). cond b (Some 0) (option_map suc (place_of number (take later.0 ns)))) is
              ∙ ap (λ (o : Option ℕ). option_map suc o) it.none_before;
        })
