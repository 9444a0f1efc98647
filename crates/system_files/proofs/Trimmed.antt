-- A name whose last slashes are cut off.
use Rattle.std.proofs.Common.{◌≡◌, ◌≢◌, ◌∙◌, ◌+◌, ◌-◌, ℕ, suc, List, [], ◌∷◌, ◌++◌, Some, None, ap, sym, arith}
use Rattle.std.proofs.Common.{length, take, replicate, append-nil, append_assoc, length-take}
use Rattle.std.specs.Str.Pattern.{FindsCharSuffix, CutsSuffixes, IsFullyTrimmed, IsTrimEndMatches}
use Rattle.std.proofs.lemmas.Str.Pattern.{strip_suffix_char}
use Rattle.system_files.specs.Names.{IsBase}

shorter : (n : ℕ) (m r : List ℕ) → FindsCharSuffix 47 m (Some n) → r ≡ take (length m - n) m
    → length r + n ≡ length m
shorter n m r h e =
    omega (arith, h.0, h.1.ends, ap length e, length-take (length m - n) m)

one_cut : (n : ℕ) (m r : List ℕ) → FindsCharSuffix 47 m (Some n) → r ≡ take (length m - n) m → m ≡ r ++ 47 ∷ []
one_cut n m r h e =
    strip_suffix_char 47 m (Some (record { ref_ptr = (0, 0); now = r })) (n, h, e, shorter n m r h e) (omega arith)

cut : (s : List ℕ) (ns : List ℕ) (r : List ℕ) → CutsSuffixes (FindsCharSuffix 47) s ns r
    → (n : ℕ) × (s ≡ r ++ replicate n 47)
cut s [] r h = (0, sym h ∙ sym (append-nil r))
cut s (n ∷ ns) r h =
    let before = cut s ns h.0 h.1 in (
      suc before.0,
      before.1 ∙ ap (λ l. l ++ replicate before.0 47) (one_cut n h.0 r h.2 h.3)
          ∙ append_assoc r (47 ∷ []) (replicate before.0 47),
    )

fully : (r : List ℕ) → IsFullyTrimmed (FindsCharSuffix 47) r → (front : List ℕ) → r ≢ front ++ 47 ∷ []
fully r (None, h, _) = strip_suffix_char 47 r None h (omega arith)
fully r (Some n, h, none) = absurd (omega (arith, h.0, none))

pub trimmed : (s r : List ℕ) → IsTrimEndMatches (FindsCharSuffix 47) s r → IsBase s r
trimmed s r h = let c = cut s h.0.0 r h.0.1 in (c.0, c.1, fully r h.1)
