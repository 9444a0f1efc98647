use Rattle.std.proofs.Common.{ℕ, List, sym, subst, ◌∙◌}
use Rattle.std.proofs.lemmas.Bool.{false≢true}
use Rattle.cramfs_format.specs.Inode.{IsName}
use Rattle.cramfs_image.proofs.Faults.{least_list, least_table, least_name, least_kind, least_link}
use Rattle.cramfs_image.proofs.soundness.fault_at.Goals as goal

pub returns-then-not-list_lies : goal.returns-then-not-list_lies
returns-then-not-list_lies c = least_list (λ h. false≢true (sym c.if-not-list_lies.true ∙ c.list_lies.ensures.1 h))

pub returns-then-not-table_lies : goal.returns-then-not-table_lies
returns-then-not-table_lies c = least_table (λ h. false≢true (sym c.if-not-table_lies.true ∙ c.table_lies.ensures.1 h))

pub returns-then-not-is_name : goal.returns-then-not-is_name
returns-then-not-is_name c = least_name (c.list_lies.ensures.0 c.if-not-list_lies.false)
    (c.table_lies.ensures.0 c.if-not-table_lies.false)
    (subst (λ (n : List ℕ). IsName n → ⊥) c.name_at.ensures
    (λ h. false≢true (sym c.if-not-is_name.true ∙ c.is_name.ensures.1 h)))

pub returns-then-not-is_known : goal.returns-then-not-is_known
returns-then-not-is_known c = least_kind (c.list_lies.ensures.0 c.if-not-list_lies.false)
    (c.table_lies.ensures.0 c.if-not-table_lies.false)
    (subst IsName c.name_at.ensures (c.is_name.ensures.0 c.if-not-is_name.false))
    (rw (← c.type_at.ensures, ← c.is_known.ensures) c.if-not-is_known.true)

pub returns-then-not-has_link_size : goal.returns-then-not-has_link_size
returns-then-not-has_link_size c = least_link (c.list_lies.ensures.0 c.if-not-list_lies.false)
    (c.table_lies.ensures.0 c.if-not-table_lies.false)
    (subst IsName c.name_at.ensures (c.is_name.ensures.0 c.if-not-is_name.false))
    (rw (← c.type_at.ensures, ← c.is_known.ensures) c.if-not-is_known.false)
    c.if-not-has_link_size.ensures.link c.if-not-has_link_size.ensures.size
