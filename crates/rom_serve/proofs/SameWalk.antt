-- Paths lead alike in two namespaces that are alike at fine places, if no name leads from a fine place to another.
use Rattle.std.proofs.Common.{◌≡◌, ℕ, Bool, List, Option, Some, None, Result, Ok, Err, refl, sym, ◌∙◌, subst}
use Rattle.std.specs.Prelude.{option_map}
use Rattle.path_walk.specs.declared.error.WalkError.{WalkError}
use Rattle.path_walk.specs.Resolution.{Namespace, resolution}
use Rattle.path_walk.proofs.Alike.{lift_result, walk_lift, ok_by}

module _ {F : Type 0} (Fine : F → Type 0) (a b : Namespace F)
    (node : (x : F) → Fine x → b.node x ≡ a.node x)
    (bytes : (x : F) → Fine x → b.bytes x ≡ a.bytes x)
    (entry : (x : F) (n : List ℕ) → Fine x → b.entry x n ≡ a.entry x n)
    (stays : (x : F) (n : List ℕ) (y : F) → Fine x → a.entry x n ≡ Some y → Fine y)
    (root : Fine a.root) (same_root : b.root ≡ a.root) where
  FinePlace : Type 0
  FinePlace = (x : F) × Fine x

  place : FinePlace → F
  unfolding FinePlace
  place x = x.0

  with_fact : (o : Option F) → ((y : F) → o ≡ Some y → Fine y) → Option FinePlace
  unfolding FinePlace
  with_fact None h = None
  with_fact (Some y) h = Some (y, h y refl)

  its_place : (o : Option F) (h : (y : F) → o ≡ Some y → Fine y) → option_map place (with_fact o h) ≡ o
  unfolding FinePlace place with_fact
  its_place None h = refl
  its_place (Some y) h = refl

  -- only the fine places
  fine_names : Namespace FinePlace
  unfolding FinePlace
  fine_names = record {
    root = (a.root, root);
    node = λ x. a.node x.0;
    bytes = λ x. a.bytes x.0;
    entry = λ x n. with_fact (a.entry x.0 n) (λ y e. stays x.0 n y x.1 e);
  }

  in_a : (path : List ℕ) (follow : Bool)
      → resolution a path follow ≡ lift_result fine_names a place (resolution fine_names path follow)
  unfolding FinePlace place fine_names
  in_a path follow =
      walk_lift fine_names a place (λ x. refl) (λ x. refl)
      (λ x n. sym (its_place (a.entry x.0 n) (λ y e. stays x.0 n y x.1 e))) refl path follow

  in_b : (path : List ℕ) (follow : Bool)
      → resolution b path follow ≡ lift_result fine_names b place (resolution fine_names path follow)
  unfolding FinePlace place fine_names
  in_b path follow =
      walk_lift fine_names b place (λ x. node x.0 x.1) (λ x. bytes x.0 x.1)
      (λ x n. entry x.0 n x.1 ∙ sym (its_place (a.entry x.0 n) (λ y e. stays x.0 n y x.1 e))) same_root path follow

  same_result : (r : Result FinePlace WalkError) → lift_result fine_names b place r ≡ lift_result fine_names a place r
  same_result (Ok x) = refl
  same_result (Err e) = refl

  pub walk_same : (path : List ℕ) (follow : Bool) → resolution b path follow ≡ resolution a path follow
  walk_same path follow = in_b path follow ∙ same_result (resolution fine_names path follow) ∙ sym (in_a path follow)

  pub walk_fine : (path : List ℕ) (follow : Bool) (s : F) → resolution a path follow ≡ Ok s → Fine s
  unfolding FinePlace place
  walk_fine path follow s e =
      let found = ok_by fine_names a place (resolution fine_names path follow) s (sym (in_a path follow) ∙ e) in
      subst Fine found.2 found.0.1
