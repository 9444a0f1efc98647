-- Equal keys have the same directory and name, and what is kept under them stays right.
use Rattle.std.proofs.Common.{◌≡◌, ◌∙◌, ap, sym, ℕ, List, true, Option, Some, rules, inl, inr, subst, Result, Ok, Err}
use Rattle.std.proofs.Common.{OnOk, OnErr}
use Rattle.std.specs.Map.{lookup}
use Rattle.rom_tree.specs.declared.types.NodeId.{NodeId}
use Rattle.lookups.specs.declared.short.Key.{Key}
use Rattle.lookups.specs.contracts.short.KeyPartialEq.TheImpl as impl
use Rattle.lru.specs.LruCache.{LruCache, lru_cache, promoted, put_entries}
use Rattle.lru.proofs.CallerLemmas.{Contains-lookup, Contains-promoted, Contains-put_entries}
use Rattle.lookups.specs.Remembers.{Remembers}

pub key_same : (a b : Key) → impl.eq-value.it a b ≡ true → (a.directory ≡ b.directory) × (a.name.items ≡ b.name.items)
key_same a b h = search rules

-- what is found under a key is right
pub found-right : (find : ℕ → List ℕ → Option NodeId) (es : List (Key × Option NodeId)) (k : Key) (v : Option NodeId)
    (dir : ℕ) (name : List ℕ) → Remembers find es
    → lookup (impl.eq-value.it k) es ≡ Some v → k.directory ≡ dir → k.name.items ≡ name → v ≡ find dir name
found-right find es k v dir name right found d n =
    let held = Contains-lookup (impl.eq-value.it k) es v found in
    let same = key_same k held.0 held.2 in
    right held.0 v held.1 ∙ ap (λ x. find x held.0.name.items) (sym same.0 ∙ d) ∙ ap (find dir) (sym same.1 ∙ n)

pub promoted-right : (find : ℕ → List ℕ → Option NodeId) (es : List (Key × Option NodeId)) (test : Key → _)
    → Remembers find es → Remembers find (promoted test es)
promoted-right find es test right k v has = right k v (Contains-promoted test es (k, v) has)

-- a right answer is put
pub put-right : (find : ℕ → List ℕ → Option NodeId) (es : List (Key × Option NodeId)) (n : ℕ) (k : Key)
    (v : Option NodeId) → Remembers find es → v ≡ find k.directory k.name.items
    → Remembers find (put_entries impl.eq-value.it (lru_cache es n) k v)
put-right find es n k v right here k' v' has =
    elim (Contains-put_entries impl.eq-value.it (lru_cache es n) k v (k', v') has) [
      | inl old ↦ right k' v' old
      | inr put ↦ put.0 ∙ here ∙ elim put.1 [
        | inl same ↦ ap (λ (x : Key). find x.directory x.name.items) (sym same)
        | inr was ↦ let same =
            key_same k k' was.2 in ap (λ d. find d k.name.items) same.0 ∙ ap (find k'.directory) same.1
      ]
    ]

-- after a put, also a refused one
pub after_put : {V E : Type 0} (find : ℕ → List ℕ → Option NodeId) (r : Result V E)
    (c c' : LruCache Key (Option NodeId)) (k : Key) (v : Option NodeId)
    → OnOk r (c' ≡ lru_cache (put_entries impl.eq-value.it c k v) c.cap) → OnErr r (c' ≡ c)
    → Remembers find c.entries → v ≡ find k.directory k.name.items → Remembers find c'.entries
after_put find (Ok x) c c' k v put same right here =
    subst (λ l. Remembers find l.entries) (sym put) (put-right find c.entries c.cap k v right here)
after_put find (Err e) c c' k v put same right here = subst (λ l. Remembers find l.entries) (sym same) right
