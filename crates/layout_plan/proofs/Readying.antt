-- From what a plan begins with to the plan of a manifest.
use Rattle.std.proofs.Common.{◌≡◌, ◌<◌, ℕ, Bool, true, false, if◌then◌else◌, ◌⊎◌, inl, inr, List, map, length, Option}
use Rattle.std.proofs.Common.{Some, None, Result, Ok, Err, IfOk, MatchOption, refl, sym, ap, subst, ◌∙◌, arith}
use Rattle.std.specs.List.{AllByRecursion as Every}
use Rattle.record_forest.specs.Faults.{IsNone, IsLeastFaultOf}
use Rattle.cramfs_format.specs.declared.order.Order.{Order}
use Rattle.cramfs_format.specs.declared.order.Order.TheVariants.{Little, Big}
use Rattle.rom_fields.specs.Padding.{pad}
use Rattle.manifest.specs.Grammar.{IsManifest}
use Rattle.manifest.specs.Lines.{ManifestLines}
use Rattle.manifest_tree.specs.Names.{Inode}
use Rattle.manifest_tree.specs.Tree.{tree_of, root_of}
use Rattle.manifest_tree.specs.Items.{Item}
use Rattle.romfs_layout.specs.Layout.{full_size_of, root_at}
use Rattle.romfs_layout.specs.Items as romfs_items
use Rattle.romfs_layout.specs.Planned as romfs_planned
use Rattle.cramfs_layout.specs.Items as cramfs_items
use Rattle.cramfs_layout.specs.Layout.{size_of}
use Rattle.cramfs_layout.specs.Planned as cramfs_planned
use Rattle.formats.specs.Format.{Format, romfs, cramfs}
use Rattle.manifest_layout.specs.Format.{len_of, items_of}
use Rattle.manifest_layout.specs.Misfit.{HasLineMisfit, HasWholeMisfit, HasNoMisfit}
use Rattle.manifest_layout.proofs.Decided.{whole_test, whole_decides}
use Rattle.manifest_layout.proofs.Known.{known}
use Rattle.manifest_layout.proofs.Plain.{good_text}
use Rattle.manifest_layout.proofs.Sectioned.{planned}
use Rattle.formats.specs.declared.format.Format as code_format
use Rattle.formats.specs.declared.format.Format.TheVariants as format
use Rattle.manifest_layout.specs.declared.laid.Laid.{Laid}
use Rattle.manifest_layout.specs.Views.{item_view}
use Rattle.std.specs.Option.{option_map}
use Rattle.plan_rows.specs.declared.misfit.Misfit.{Misfit}
use Rattle.plan_rows.specs.Misfits.{misfit_fault}
use Rattle.formats.specs.Format.{format_of}
use Rattle.plan_rows.specs.Fits.{IsFit}
use Rattle.plan_rows.specs.Rows.{Row}
use Rattle.plan_rows.proofs.Fitting.{rows_fit}
use Rattle.romfs_plan.specs.Rows as of_romfs
use Rattle.romfs_plan.proofs.Short as romfs_short
use Rattle.cramfs_plan.specs.Wholes as of_cramfs
use Rattle.cramfs_plan.proofs.Whole as cramfs_short
use Rattle.layout_plan.specs.Ready.{IsReady}

pub volume_short : (f : Format) (m : ManifestLines) (sizes : List ℕ) → IsManifest m → IsNone (HasLineMisfit f m sizes)
    → length m.volume < 256
volume_short f m sizes h n =
    let k = known f m sizes h n in
    let g = good_text 255 m.volume k.1.volume in
    let l = g.0 in
    omega (arith, l)

pub rows_are_fit : (f : Format) (m : ManifestLines) (sizes volume : List ℕ) (root : Inode) (rs : List Row)
    → IsReady f m sizes volume root rs → Every (IsFit f) rs
rows_are_fit f m sizes volume root rs r =
    subst (Every (IsFit f)) (sym r.rows_are) (rows_fit f m sizes r.manifest r.lines)

pub ready_volume : (f : Format) (m : ManifestLines) (sizes volume : List ℕ) (root : Inode) (rs : List Row)
    → IsReady f m sizes volume root rs → length volume < 256
ready_volume f m sizes volume root rs r =
    let s = volume_short f m sizes r.manifest r.lines in
    let e = ap length r.volume_is in
    omega (arith, s, e)

whole : (f : Format) (m : ManifestLines) (sizes : List ℕ) → whole_test f m sizes ≡ true → HasWholeMisfit f m sizes
whole f m sizes e = (whole_decides f m sizes).0 e

fits : (f : Format) (m : ManifestLines) (sizes : List ℕ) → IsNone (HasLineMisfit f m sizes)
    → whole_test f m sizes ≡ false
    → HasNoMisfit f m sizes
fits f m sizes n e =
    record { lines = n; whole = λ x. let z : false ≡ true = sym e ∙ (whole_decides f m sizes).1 x in absurd (cc) }

-- a length, or none
large_by : (b : Bool) (k : ℕ) → ◌≡◌ {A = Option ℕ} None (if b then None else Some k) → b ≡ true
large_by true k e = refl
large_by false k e = absurd (cc)

small_by : (b : Bool) (k x : ℕ) → ◌≡◌ {A = Option ℕ} (Some x) (if b then None else Some k) → (b ≡ false) × (x ≡ k)
small_by true k x e = absurd (cc)
small_by false k x e = (refl, cc)

-- in romfs
module _ (m : ManifestLines) (sizes volume : List ℕ) (root : Inode) (rs : List Row)
    (r : IsReady romfs m sizes volume root rs) where
  large_is : of_romfs.too_large volume root (tree_of m.lines sizes) ≡ whole_test romfs m sizes
  large_is =
      ap (λ (v : List ℕ). of_romfs.too_large v root (tree_of m.lines sizes)) r.volume_is
      ∙ ap (λ (i : Inode). of_romfs.too_large m.volume i (tree_of m.lines sizes)) r.root_is

  len_is : pad (full_size_of (root_at volume) (tree_of m.lines sizes)) 1024 ≡ len_of romfs m sizes
  len_is = ap (λ (v : List ℕ). pad (full_size_of (root_at v) (tree_of m.lines sizes)) 1024) r.volume_is

  pub romfs_whole : (o : Option ℕ) → o ≡ None
      → o ≡ (if of_romfs.too_large volume root (tree_of m.lines sizes) then None
      else Some (pad (full_size_of (root_at volume) (tree_of m.lines sizes)) 1024))
      → HasWholeMisfit romfs m sizes
  romfs_whole o n e = whole romfs m sizes
      (sym large_is ∙ large_by (of_romfs.too_large volume root (tree_of m.lines sizes))
      (pad (full_size_of (root_at volume) (tree_of m.lines sizes)) 1024) (sym n ∙ e))

  pub romfs_fits : (o : Option ℕ) (x : ℕ) → o ≡ Some x
      → o ≡ (if of_romfs.too_large volume root (tree_of m.lines sizes) then None
      else Some (pad (full_size_of (root_at volume) (tree_of m.lines sizes)) 1024))
      → HasNoMisfit romfs m sizes × (x ≡ len_of romfs m sizes)
  romfs_fits o x s e =
      let b = small_by (of_romfs.too_large volume root (tree_of m.lines sizes))
      (pad (full_size_of (root_at volume) (tree_of m.lines sizes)) 1024) x (sym s ∙ e) in
      (fits romfs m sizes r.lines (sym large_is ∙ b.0), b.1 ∙ len_is)

  pub romfs_planned_in : HasNoMisfit romfs m sizes
      → (cs : List (List ℕ)) × romfs_planned.IsPlanned volume root (tree_of m.lines sizes) cs
  romfs_planned_in n =
      let p = planned romfs m sizes r.manifest n in
      let a = subst (λ (xs : List ℕ). romfs_planned.IsPlanned m.volume (root_of m.lines xs)
      (tree_of m.lines xs) p.0) p.1 p.2 in
      let b = subst (λ (v : List ℕ). romfs_planned.IsPlanned v (root_of m.lines sizes) (tree_of m.lines sizes) p.0)
      (sym r.volume_is) a in
      (p.0, subst (λ (i : Inode). romfs_planned.IsPlanned volume i (tree_of m.lines sizes) p.0) (sym r.root_is) b)

  pub romfs_items_are : (is : List Item) → is ≡ romfs_items.items_of volume root (tree_of m.lines sizes)
      → is ≡ items_of romfs m sizes
  romfs_items_are is e =
      e ∙ ap (λ (v : List ℕ). romfs_items.items_of v root (tree_of m.lines sizes)) r.volume_is
      ∙ ap (λ (i : Inode). romfs_items.items_of m.volume i (tree_of m.lines sizes)) r.root_is

-- in cramfs
module _ (o : Order) (m : ManifestLines) (sizes volume : List ℕ) (root : Inode) (rs : List Row)
    (r : IsReady (cramfs o) m sizes volume root rs) where
  pub cramfs_whole : of_cramfs.too_large o root (tree_of m.lines sizes) ≡ true → HasWholeMisfit (cramfs o) m sizes
  cramfs_whole e =
      whole (cramfs o) m sizes (ap (λ (i : Inode). of_cramfs.too_large o i (tree_of m.lines sizes)) (sym r.root_is) ∙ e)

  pub cramfs_fits : of_cramfs.too_large o root (tree_of m.lines sizes) ≡ false → HasNoMisfit (cramfs o) m sizes
  cramfs_fits e = fits (cramfs o) m sizes r.lines
      (ap (λ (i : Inode). of_cramfs.too_large o i (tree_of m.lines sizes)) (sym r.root_is) ∙ e)

  pub cramfs_planned_in : HasNoMisfit (cramfs o) m sizes
      → (cs : List (List ℕ)) × cramfs_planned.IsPlanned volume root (tree_of m.lines sizes) cs
  cramfs_planned_in n =
      let p = planned (cramfs o) m sizes r.manifest n in
      let a = subst (λ (xs : List ℕ). cramfs_planned.IsPlanned m.volume (root_of m.lines xs)
      (tree_of m.lines xs) p.0) p.1 p.2 in
      let b = subst (λ (v : List ℕ). cramfs_planned.IsPlanned v (root_of m.lines sizes) (tree_of m.lines sizes) p.0)
      (sym r.volume_is) a in
      (p.0, subst (λ (i : Inode). cramfs_planned.IsPlanned volume i (tree_of m.lines sizes) p.0) (sym r.root_is) b)

  pub cramfs_items_are : (is : List Item) → is ≡ cramfs_items.items_of o root (tree_of m.lines sizes)
      → is ≡ items_of (cramfs o) m sizes
  cramfs_items_are is e = e ∙ ap (λ (i : Inode). cramfs_items.items_of o i (tree_of m.lines sizes)) r.root_is

  -- what is laid out is the layout of the manifest
  pub cramfs_laid : {E : Type 0} (x : Result (Option Laid) E)
      → IfOk x (λ l. MatchOption l (of_cramfs.too_large o root (tree_of m.lines sizes) ≡ true)
      (λ l. (of_cramfs.too_large o root (tree_of m.lines sizes) ≡ false)
      × (l.image_len ≡ size_of (tree_of m.lines sizes))))
      → ((cs : List (List ℕ)) → cramfs_planned.IsPlanned volume root (tree_of m.lines sizes) cs
      → IfOk x (λ l. MatchOption l (Unit {0})
      (λ l. map item_view l.items.items ≡ cramfs_items.items_of o root (tree_of m.lines sizes))))
      → IfOk x (λ l. MatchOption l (HasWholeMisfit (cramfs o) m sizes)
      (λ l. HasNoMisfit (cramfs o) m sizes × (l.image_len ≡ len_of (cramfs o) m sizes)
      × (map item_view l.items.items ≡ items_of (cramfs o) m sizes)))
  cramfs_laid (Err e) h k = tt
  cramfs_laid (Ok None) h k = cramfs_whole h
  cramfs_laid (Ok (Some l)) h k =
      let fit = cramfs_fits h.0 in
      let p = cramfs_planned_in fit in
      (fit, h.1, cramfs_items_are (map item_view l.items.items) (k p.0 p.1))

-- items have short names
pub names_short : (f : Format) (m : ManifestLines) (sizes : List ℕ) → IsManifest m → HasNoMisfit f m sizes
    → Every (λ (i : Item). length i.name < 256) (items_of f m sizes)
names_short romfs m sizes h n =
    let p = planned romfs m sizes h n in
    subst (λ (xs : List ℕ). Every (λ (i : Item). length i.name < 256) (items_of romfs m xs)) p.1
    (romfs_short.short_names m.volume (root_of m.lines (map length p.0)) (tree_of m.lines (map length p.0)) p.0 p.2)
names_short (cramfs o) m sizes h n =
    let p = planned (cramfs o) m sizes h n in
    subst (λ (xs : List ℕ). Every (λ (i : Item). length i.name < 256) (items_of (cramfs o) m xs)) p.1
    (cramfs_short.short_names o m.volume (root_of m.lines (map length p.0))
    (tree_of m.lines (map length p.0)) p.0 p.2)

pub in_cramfs : (P : Format → Type 0) (z : code_format.Format) → (z ≡ format.Cramfs) ⊎ (z ≡ format.CramfsBig)
    → ((o : Order) → P (cramfs o))
    → P (format_of z)
in_cramfs P z (inl e) p = subst (λ (x : code_format.Format). P (format_of x)) (sym e) (p Little)
in_cramfs P z (inr e) p = subst (λ (x : code_format.Format). P (format_of x)) (sym e) (p Big)

-- no line misfits if no misfit of a line was found
pub lines_none : (f : Format) (m : ManifestLines) (sizes : List ℕ) (o : Option Misfit) → o ≡ None
    → IsLeastFaultOf (HasLineMisfit f m sizes) (option_map misfit_fault o) → IsNone (HasLineMisfit f m sizes)
lines_none f m sizes o e h =
    let reported =
    subst (λ (x : Option Misfit). IsLeastFaultOf (HasLineMisfit f m sizes) (option_map misfit_fault x)) e h in
    λ d p. reported.least d p
