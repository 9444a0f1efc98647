-- Sections of which no two have the contents of one source.
use Rattle.std.proofs.Common.{◌≡◌, ℕ, nat_lt, true, false, cond, List, [], ◌∷◌}
use Rattle.std.specs.List.{AllByRecursion as Every}
use Rattle.record_forest.specs.Members.{Pairs}
use Rattle.manifest_tree.specs.Items.{Section, contents_of, put_section, in_order}
use Rattle.manifest_tree.proofs.Sections.{order_every}

-- they do not have the contents of one source
abbrev pub Differ : Section → Section → Type 0
Differ x y = (k : ℕ) → x.body ≡ contents_of k → y.body ≡ contents_of k → ⊥

put_every : (P : Section → Type 0) (s : Section) (ts : List Section) → P s → Every P ts → Every P (put_section s ts)
put_every P s [] p h = (p, tt)
put_every P s (t ∷ ts) p h =
    elim (nat_lt s.place t.place) as (λ b. Every P (cond b (s ∷ t ∷ ts) (t ∷ put_section s ts))) [
      | true ↦ (p, h)
      | false ↦ (h.0, put_every P s ts p h.1)
    ]

put_differ : (s : Section) (ts : List Section) → Every (Differ s) ts → Pairs Differ ts → Pairs Differ (put_section s ts)
put_differ s [] h p = (tt, tt)
put_differ s (t ∷ ts) h p =
    elim (nat_lt s.place t.place) as (λ b. Pairs Differ (cond b (s ∷ t ∷ ts) (t ∷ put_section s ts))) [
      | true ↦ (h, p)
      | false ↦ (put_every (Differ t) s ts (λ k a b. h.0 k b a) p.0, put_differ s ts h.1 p.1)
    ]

pub order_differ : (ss : List Section) → Pairs Differ ss → Pairs Differ (in_order ss)
order_differ [] p = tt
order_differ (s ∷ ss) p = put_differ s (in_order ss) (order_every (Differ s) ss p.0) (order_differ ss p.1)
