-- Data are bytes of the file whose path their record has.
use Rattle.std.proofs.Common.{◌≡◌, ◌≢◌, ℕ, zero, suc, ◌+◌, Bool, true, false, List, [], ◌∷◌}
use Rattle.std.proofs.Common.{refl, sym, ap, subst, ◌∙◌, arith, if◌then◌else◌}
use Rattle.std.specs.List.{Contains, AllByRecursion as Every}
use Rattle.std.specs.Prelude.{slice_get}
use Rattle.record_forest.specs.Forest.{Forest}
use Rattle.rom_tree.specs.declared.types.Run.{Run}
use Rattle.rom_tree.specs.Image.{IsRun}
use Rattle.rom_tree.specs.Names.{Name, names}
use Rattle.rom_tree.specs.Tree.{Node, places_of}
use Rattle.image_extents.specs.declared.extent.Record.{Record}
use Rattle.image_extents.specs.declared.extent.Extent.{Extent}
use Rattle.image_extents.specs.declared.extent.Extents.{Extents}
use Rattle.image_extents.specs.Listed.{path_in, path_of}
use Rattle.image_extents.specs.Owned.{HasBytes, run_of}
use Rattle.image_extents.proofs.DataRuns.{places_by, places_in}
use Rattle.image_extents.proofs.Named.{Format, Each, contains_more}
use Rattle.image_extents.proofs.Texts.{path_below}

no_run : (off : ℕ) (r : Run) → IsRun [] off r → ⊥
no_run off r h = let some = h.some in let within = h.within in absurd (omega (arith, some, within))

module _ (F : Format) (rs : List Record) (has : ℕ → Bool) (places : ℕ → List ℕ)
    (has_places : (p : ℕ) (own : Forest) → has p ≡ true → places_of (F.make p (F.entries own)) ≡ places p) where
  -- a record with data has a name in the tree
  abbrev pub IsShown : Record → Type 0
  IsShown x = has x.offset ≡ true → F.skip x.offset ≡ false

  -- a name with the path of the i-th record, whose node has the run
  record IsHeld (ns : List Name) (i off : ℕ) (r : Run) : Type 0 where
    name : Name
    among : Contains ns name
    path : path_in F.bytes rs 65 i ≡ name.path
    run : IsRun (places_of name.node) off r

  held_first : (ns : List Name) (n off : ℕ) (r : Run) (x : Record) (xs : List Record) → Each F rs ns n (x ∷ xs)
      → IsShown x → (v : Bool) → has x.offset ≡ v → IsRun (if v then places x.offset else []) off r → IsHeld ns n off r
  held_first ns n off r x xs h shown true e run =
      let i = h.0 (shown e) in
      let same : places_of i.name.node ≡ places x.offset = ap places_of i.node ∙ has_places x.offset i.own e in
      record {
        name = i.name;
        among = i.among;
        path = i.path;
        run = subst (λ (v : List ℕ). IsRun v off r) (sym same) run;
      }
  held_first ns n off r x xs h shown false e run = absurd (no_run off r run)

  held_at : (ns : List Name) (n i k off : ℕ) (r : Run) (xs : List Record) → n + i ≡ k → Each F rs ns n xs
      → Every IsShown xs → IsRun (places_by has places (slice_get xs i)) off r → IsHeld ns k off r
  held_at ns n i k off r [] e h shown run = absurd (no_run off r run)
  held_at ns n zero k off r (x ∷ xs) e h shown run =
      let z : n ≡ k = omega (arith, e) in
      subst (λ (v : ℕ). IsHeld ns v off r) z (held_first ns n off r x xs h shown.0 (has x.offset) refl run)
  held_at ns n (suc i) k off r (x ∷ xs) e h shown run =
      held_at ns (suc n) i k off r xs (omega (arith, e)) h.1 shown.1 run

-- a list that begins with the root's record, which has no data
module _ (F : Format) (first : Record) (rest : List Record) (has : ℕ → Bool) (places : ℕ → List ℕ)
    (has_places : (p : ℕ) (own : Forest) → has p ≡ true → places_of (F.make p (F.entries own)) ≡ places p)
    (shown : Every (λ (x : Record). has x.offset ≡ true → F.skip x.offset ≡ false) rest)
    (no_root : has first.offset ≡ false) (ns : List Name) (each : Each F (first ∷ rest) ns 1 rest) where
  by_index : (i off : ℕ) (r : Run) → IsRun (places_in (first ∷ rest) has places i) off r
      → (i ≢ 0) × IsHeld F (first ∷ rest) has places has_places ns i off r
  by_index zero off r run =
      absurd (no_run off r (subst (λ (v : Bool). IsRun (if v then places first.offset else []) off r) no_root run))
  by_index (suc i) off r run = (
    λ z. absurd (omega (arith, z)),
    held_at F (first ∷ rest) has places has_places ns 1 i (suc i) off r rest (omega arith) each shown run,
  )

  pub has_bytes : (t : Node) (root : Name) (e : Extents) (x : Extent) → names t ≡ root ∷ ns → e.bytes.now ≡ F.bytes
      → e.records.items ≡ first ∷ rest → IsRun (places_in (first ∷ rest) has places x.owner) x.offset (run_of x)
      → HasBytes t e x
  has_bytes t root e x all b records run =
      let h = by_index x.owner x.offset (run_of x) run in
      record {
        name = h.1.name;
        named = subst (λ (v : List Name). Contains v h.1.name) (sym all) (contains_more h.1.name root ns h.1.among);
        path = ap (λ (v : List ℕ). path_of v e.records.items x.owner) b
            ∙ (ap (λ (v : List Record). path_of F.bytes v x.owner) records
            ∙ (path_below F.bytes (first ∷ rest) x.owner h.0 ∙ h.1.path));
        run = h.1.run;
      }
