-- The bytes of a text as it is put.
use Rattle.std.proofs.Common.{◌≡◌, ◌≢◌, ◌≤◌, ℕ, List, [], ◌∷◌, ◌++◌, Bool, true, false, refl, arith, eqb, nat_lt}
use Rattle.std.proofs.Common.{if◌then◌else◌}
use Rattle.std.proofs.Common.{sym, ◌∙◌}
use Rattle.std.specs.Prelude.{codes}
use Rattle.std.proofs.lemmas.Bool.{eq-eqb, ltb-false}
use Rattle.std.specs.List.{flat_map, AllByRecursion as Every}
use Rattle.map_forms.specs.Xml.{xml_byte, xml_text, IsPlainByte}

every_both : (xs ys : List ℕ) → Every IsPlainByte xs → Every IsPlainByte ys → Every IsPlainByte (xs ++ ys)
every_both [] ys h k = k
every_both (x ∷ xs) ys h k = (h.0, every_both xs ys h.1 k)

choice : (v : Bool) (xs ys : List ℕ) → Every IsPlainByte xs → (v ≡ false → Every IsPlainByte ys)
    → Every IsPlainByte (if v then xs else ys)
choice true xs ys h k = h
choice false xs ys h k = k refl

other : (b n : ℕ) → eqb b n ≡ false → b ≢ n
other b n e z = let t = eq-eqb b n z in let k : true ≡ false = sym t ∙ e in absurd (cc)

plain : (b : ℕ) → 32 ≤ b → b ≤ 126 → b ≢ 60 → b ≢ 34 → b ≢ 39 → IsPlainByte b
plain b l h t q a = record { low = l; high = h; tag = t; quote = q; apostrophe = a }

here : (b : ℕ) → eqb b 60 ≡ false → eqb b 34 ≡ false → eqb b 39 ≡ false → nat_lt b 32 ≡ false → nat_lt 126 b ≡ false
    → IsPlainByte b
here b t q a l h = plain b (ltb-false b 32 l) (ltb-false 126 b h) (other b 60 t) (other b 34 q) (other b 39 a)

known : (b : ℕ) → 32 ≤ b → b ≤ 126 → b ≢ 60 → b ≢ 34 → b ≢ 39 → IsPlainByte b
known b l h t q a = plain b l h t q a

lit : (b : ℕ) → eqb b 60 ≡ false → eqb b 34 ≡ false → eqb b 39 ≡ false → 32 ≤ b → b ≤ 126 → IsPlainByte b
lit b t q a l h = plain b l h (other b 60 t) (other b 34 q) (other b 39 a)

amp : IsPlainByte 38
amp = lit 38 refl refl refl (omega arith) (omega arith)

semi : IsPlainByte 59
semi = lit 59 refl refl refl (omega arith) (omega arith)

hash : IsPlainByte 35
hash = lit 35 refl refl refl (omega arith) (omega arith)

d3 : IsPlainByte 51
d3 = lit 51 refl refl refl (omega arith) (omega arith)

d4 : IsPlainByte 52
d4 = lit 52 refl refl refl (omega arith) (omega arith)

d9 : IsPlainByte 57
d9 = lit 57 refl refl refl (omega arith) (omega arith)

la : IsPlainByte 97
la = lit 97 refl refl refl (omega arith) (omega arith)

lg : IsPlainByte 103
lg = lit 103 refl refl refl (omega arith) (omega arith)

ll : IsPlainByte 108
ll = lit 108 refl refl refl (omega arith) (omega arith)

lm : IsPlainByte 109
lm = lit 109 refl refl refl (omega arith) (omega arith)

lp : IsPlainByte 112
lp = lit 112 refl refl refl (omega arith) (omega arith)

lt : IsPlainByte 116
lt = lit 116 refl refl refl (omega arith) (omega arith)

mark : IsPlainByte 63
mark = lit 63 refl refl refl (omega arith) (omega arith)

byte_plain : (b : ℕ) → Every IsPlainByte (xml_byte b)
unfolding xml_byte
byte_plain b =
    choice (eqb b 60) (codes "&lt;") _ (amp, (ll, (lt, (semi, tt)))) (λ t.
    choice (eqb b 62) (codes "&gt;") _ (amp, (lg, (lt, (semi, tt)))) (λ g.
    choice (eqb b 38) (codes "&amp;") _ (amp, (la, (lm, (lp, (semi, tt))))) (λ m.
    choice (eqb b 34) (codes "&#34;") _ (amp, (hash, (d3, (d4, (semi, tt))))) (λ q.
    choice (eqb b 39) (codes "&#39;") _ (amp, (hash, (d3, (d9, (semi, tt))))) (λ a.
    choice (nat_lt b 32) (63 ∷ []) _ (mark, tt) (λ l.
    choice (nat_lt 126 b) (63 ∷ []) _ (mark, tt) (λ h. (here b t q a l h, tt))))))))

pub text_plain : (text : List ℕ) → Every IsPlainByte (xml_text text)
unfolding xml_text
text_plain [] = tt
text_plain (x ∷ xs) = every_both (xml_byte x) (flat_map xml_byte xs) (byte_plain x) (text_plain xs)
