-- What the later phases find among the rows of a forest is what the fault set says of references and records.
use Rattle.std.proofs.Common.{◌≡◌, ℕ, zero, suc, ◌<◌, Bool, true, false, List, [], ◌∷◌, ◌++◌, None, Some, inl, inr}
use Rattle.std.proofs.Common.{refl, sym, ap, subst, ◌∙◌}
use Rattle.std.proofs.lemmas.Bool.{false≢true, eq-eqb}
use Rattle.std.proofs.lemmas.Bool.Decides.{eqb_tells}
use Rattle.std.specs.List.{AllByRecursion as Every, list_any}
use Rattle.rom_fields.specs.declared.fault.Fault.{Fault}
use Rattle.record_forest.specs.declared.reference.Row.{Row}
use Rattle.record_forest.specs.Members.{Has, Pairs}
use Rattle.record_forest.specs.Forest.{Forest, all_rows, IsForest}
use Rattle.record_forest.proofs.Lists.{has_every, pairs_cross, same_some}
use Rattle.record_forest.proofs.Exact.{has_member, member_every, has_at, every_here, split_at, later_split, FoundAt}
use Rattle.romfs_format.specs.Record.{name_of, type_of, spec_offset_of}
use Rattle.romfs_format.specs.Refers.{references, LeadsToSound}
use Rattle.romfs_format.specs.Tree.{follow, listed_rows}
use Rattle.rom_tree.specs.Dots.{is_dots}
use Rattle.romfs_format.specs.Faults.{IsReached, IsListed, itself, ComesAfter, IsParent, Leads, here, link}
use Rattle.romfs_format.specs.Faults.{HasNameFault, repeated as set_repeated, here_astray as set_here}
use Rattle.romfs_format.specs.Faults.{above_astray as set_above, root_renamed as set_root, link_astray as set_link}
use Rattle.romfs_format.proofs.Orders.{Comes, comes_precedes}
use Rattle.romfs_format.proofs.Named.{rows_listed, listed_in, rows_ordered, rows_followed, rows_parent, one_parent}
use Rattle.romfs_format.proofs.Named.{reached_has, rows_are_reached, root_heads}
use Rattle.romfs_image.specs.Phases.{IsNameFault, repeated, here_astray, above_astray, root_renamed, link_astray}
use Rattle.romfs_image.proofs.Steps.{Is, step_done, step_lost, step_more, step_end}

-- a row at an offset, as the code looks for it
any_offset : (t : ℕ) (xs : List Row) → list_any (Is t) xs ≡ true → Has (λ (y : Row). y.offset ≡ t) xs
any_offset t [] e = absurd (false≢true e)
any_offset t (x ∷ xs) e = elim (eqb_tells x.offset t) [ inl k ↦ inl k.1 | inr k ↦ inr (any_offset t xs (rw k.0 at e)) ]

offset_any : (t : ℕ) (xs : List Row) → Has (λ (y : Row). y.offset ≡ t) xs → list_any (Is t) xs ≡ true
offset_any t [] h = absurd h
offset_any t (x ∷ xs) (inl e) = rw (eq-eqb x.offset t e) refl
offset_any t (x ∷ xs) (inr h) = elim (eqb_tells x.offset t) [ inl k ↦ rw k.0 refl | inr k ↦ rw k.0 (offset_any t xs h) ]

none_some : {q : ℕ} → None ≡ Some q → ⊥
none_some e = cc

module _ {b : List ℕ} {r most : ℕ} {f : Forest} (above : 0 < r)
    (h : IsForest (references b r) (LeadsToSound b r) most f) where
  -- what a record leads to
  by_any : (n p q : ℕ) → type_of b p ≡ 0
      → ((t : ℕ) → follow b (all_rows (references b r) f) n t ≡ Some q → Leads b r n t q) → (v : Bool)
      → list_any (Is (spec_offset_of b p)) (all_rows (references b r) f) ≡ v
      → follow b (all_rows (references b r) f) (suc n) p ≡ Some q → Leads b r (suc n) p q
  by_any n p q k more true v e =
      link k (reached n p v) (more (spec_offset_of b p)
      (sym (step_more b (all_rows (references b r) f) n p (spec_offset_of b p) k refl v) ∙ e))
    where
      reached : (n p : ℕ) → list_any (Is (spec_offset_of b p)) (all_rows (references b r) f) ≡ true
          → IsReached b r (spec_offset_of b p)
      reached n p v =
          let w = has_every (λ (y : Row). IsReached b r y.offset) (λ (y : Row). y.offset ≡ spec_offset_of b p)
          (all_rows (references b r) f) (rows_are_reached above h)
          (any_offset (spec_offset_of b p) (all_rows (references b r) f) v) in
          subst (IsReached b r) w.2 w.1
  by_any n p q k more false v e =
      absurd (none_some (sym (step_lost b (all_rows (references b r) f) (suc n) p (spec_offset_of b p) k refl v) ∙ e))

  pub follow_leads : (n p q : ℕ) → follow b (all_rows (references b r) f) n p ≡ Some q → Leads b r n p q
  follow_leads zero p q e = elim (eqb_tells (type_of b p) 0) [
    | inl k ↦ absurd (none_some (sym (step_end b (all_rows (references b r) f) p k.1) ∙ e))
    | inr k ↦ subst (Leads b r zero p) (same_some (sym (step_done b (all_rows (references b r) f) zero p k.1) ∙ e))
        (here k.1)
  ]
  follow_leads (suc n) p q e = elim (eqb_tells (type_of b p) 0) [
    | inl k ↦ by_any n p q k.1 (λ t i. follow_leads n t q i)
        (list_any (Is (spec_offset_of b p)) (all_rows (references b r) f)) refl e
    | inr k ↦ subst (Leads b r (suc n) p)
        (same_some (sym (step_done b (all_rows (references b r) f) (suc n) p k.1) ∙ e)) (here k.1)
  ]

  pub leads_follow : (n p q : ℕ) → Leads b r n p q → follow b (all_rows (references b r) f) n p ≡ Some q
  leads_follow n p q (here k) = step_done b (all_rows (references b r) f) n p k
  leads_follow n p q (link {n = m} k reached l) =
      step_more b (all_rows (references b r) f) m p (spec_offset_of b p) k refl
      (offset_any (spec_offset_of b p) (all_rows (references b r) f)
      (reached_has above h (spec_offset_of b p) reached)) ∙ leads_follow m (spec_offset_of b p) q l

  -- A fault of a name at a row of a list is one of the fault set,
  pub into_names : (before : List Row) (x : Row) (after : List Row) (n : ℕ)
      → listed_rows b r (all_rows (references b r) f) ≡ before ++ x ∷ after
      → IsNameFault b r (all_rows (references b r) f) before x n
      → HasNameFault b r (record { number = n; at = x.offset })
  into_names before x after n among t =
      let P : Row → Type 0 = λ y. IsListed b r y.directory y.offset in
      let listed : IsListed b r x.directory x.offset =
      every_here P before x after (subst (Every P) among (rows_listed above h)) in
      let Q : Row → Type 0 = λ y. IsParent b r y.directory y.parent in
      let parent : IsParent b r x.directory x.parent =
      every_here Q before x after (subst (Every Q) among (rows_parent above h)) in
      elim t [
        | repeated e a ↦
            let cross =
            pairs_cross (Comes b r) before (x ∷ after) (subst (Pairs (Comes b r)) among (rows_ordered above h)) in
            let m = member_every (λ (y : Row). Every (Comes b r y) (x ∷ after))
            (λ (y : Row). (y.directory ≡ x.directory) × (name_of b y.offset ≡ name_of b x.offset)) before cross a in
            set_repeated (m.1.0 m.2.0) m.2.1 e
        | here_astray e named l ↦ set_here listed named (λ k. l (leads_follow 8 x.offset x.directory k)) e
        | above_astray e named l ↦ set_above listed parent named (λ k. l (leads_follow 8 x.offset x.parent k)) e
        | root_renamed e place named ↦ set_root
            (root_heads above h x.directory (subst (IsListed b r x.directory) place listed)) place
            (λ k. named (ap (name_of b) place ∙ k)) e
        | link_astray e entry kind l ↦ set_link listed entry kind (λ q k. l q (leads_follow 8 x.offset q k)) e
      ]

  -- a record of a list at its row
  listed_split : (d p : ℕ) → IsListed b r d p
      → (before : List Row) × (x : Row) × (after : List Row)
      × (listed_rows b r (all_rows (references b r) f) ≡ before ++ x ∷ after) × ((x.offset ≡ p) × (x.directory ≡ d))
  listed_split d p l = split_at (λ (y : Row). (y.offset ≡ p) × (y.directory ≡ d))
      (listed_rows b r (all_rows (references b r) f)) (listed_in above h d p l)

  -- the row of a name that is repeated
  repeated_row : (e : Fault) (d p : ℕ) → ComesAfter b r d p e.at → name_of b p ≡ name_of b e.at → e.number ≡ 23
      → FoundAt (IsNameFault b r (all_rows (references b r) f)) (listed_rows b r (all_rows (references b r) f)) e
  repeated_row e d p c names number =
      let i = comes_precedes b r d p e.at (listed_rows b r (all_rows (references b r) f)) (rows_followed above h)
      (λ u l. listed_in above h d u l) c in
      let s = split_at (λ (z : Row). (z.offset ≡ e.at) × (z.directory ≡ d)) i.after i.later in
      let among =
      later_split (listed_rows b r (all_rows (references b r) f)) i.before i.row i.after s.0 s.1 s.2 i.among s.3 in
      let same : (i.row.directory ≡ s.1.directory) × (name_of b i.row.offset ≡ name_of b s.1.offset) =
      (i.directory ∙ sym s.4.1, ap (name_of b) i.offset ∙ names ∙ ap (name_of b) (sym s.4.0)) in
      let Same : Row → Type 0 = λ y. (y.directory ≡ s.1.directory) × (name_of b y.offset ≡ name_of b s.1.offset) in
      record {
        before = i.before ++ i.row ∷ s.0;
        row = s.1;
        after = s.2;
        among = among;
        at = s.4.0;
        found = repeated number (has_member Same (i.before ++ i.row ∷ s.0) (has_at Same i.before i.row s.0 same));
      }

  -- and a fault of a name in the fault set is at a row.
  pub from_names : (e : Fault) → HasNameFault b r e
      → FoundAt (IsNameFault b r (all_rows (references b r) f)) (listed_rows b r (all_rows (references b r) f)) e
  from_names e (set_repeated {d} {p} c names number) = repeated_row e d p c names number
  from_names e (set_here {d} l named astray number) =
      let s = listed_split d e.at l in
      record {
        before = s.0;
        row = s.1;
        after = s.2;
        among = s.3;
        at = s.4.0;
        found = here_astray number (ap (name_of b) s.4.0 ∙ named)
            (λ k. astray (subst (λ (p : ℕ). Leads b r 8 p d) s.4.0
            (subst (Leads b r 8 s.1.offset) s.4.1 (follow_leads 8 s.1.offset s.1.directory k))));
      }
  from_names e (set_above {d} {u} l parent named astray number) =
      let s = listed_split d e.at l in
      let Q : Row → Type 0 = λ y. IsParent b r y.directory y.parent in
      let parent' : IsParent b r s.1.directory s.1.parent =
      every_here Q s.0 s.1 s.2 (subst (Every Q) s.3 (rows_parent above h)) in
      let same =
      one_parent above h d s.1.parent u (subst (λ (o : ℕ). IsParent b r o s.1.parent) s.4.1 parent') parent in
      record {
        before = s.0;
        row = s.1;
        after = s.2;
        among = s.3;
        at = s.4.0;
        found = above_astray number (ap (name_of b) s.4.0 ∙ named)
            (λ k. astray (subst (λ (p : ℕ). Leads b r 8 p u) s.4.0
            (subst (Leads b r 8 s.1.offset) same (follow_leads 8 s.1.offset s.1.parent k))));
      }
  from_names e (set_root heads place named number) =
      let s = listed_split r r (itself heads refl refl) in
      record {
        before = s.0;
        row = s.1;
        after = s.2;
        among = s.3;
        at = s.4.0 ∙ sym place;
        found = root_renamed number s.4.0 (λ k. named (ap (name_of b) (sym s.4.0) ∙ k));
      }
  from_names e (set_link {d} l entry kind astray number) =
      let s = listed_split d e.at l in
      record {
        before = s.0;
        row = s.1;
        after = s.2;
        among = s.3;
        at = s.4.0;
        found = link_astray number (ap (λ (p : ℕ). is_dots (name_of b p)) s.4.0 ∙ entry) (ap (type_of b) s.4.0 ∙ kind)
            (λ q k. astray q (subst (λ (p : ℕ). Leads b r 8 p q) s.4.0 (follow_leads 8 s.1.offset q k)));
      }
