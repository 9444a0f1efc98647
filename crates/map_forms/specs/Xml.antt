-- Texts of XML, between tags and in attributes. (This project's own.)
use Rattle.std.specs.Prelude.{ℕ, ◌≢◌, ◌≤◌, ◌==◌, if◌then◌else◌, nat_lt, List, [], ◌∷◌, codes}
use Rattle.std.specs.List.{flat_map}

-- `<`, `>`, `&` and quotes as references; any other visible ASCII character and a space as it is;
-- other bytes as `?`
unfoldable pub xml_byte : ℕ → List ℕ
xml_byte b =
    if b == 60 then codes "&lt;" else (if b == 62 then codes "&gt;"
    else (if b == 38 then codes "&amp;" else (if b == 34 then codes "&#34;"
    else (if b == 39 then codes "&#39;" else (if nat_lt b 32 then 63 ∷ []
    else (if nat_lt 126 b then 63 ∷ [] else b ∷ []))))))

unfoldable pub xml_text : List ℕ → List ℕ
xml_text text = flat_map xml_byte text

-- a byte that neither begins a tag nor ends an attribute, and that every XML text may have
pub record IsPlainByte (b : ℕ) : Type 0 where
  pub low : 32 ≤ b
  pub high : b ≤ 126
  pub tag : b ≢ 60
  pub quote : b ≢ 34
  pub apostrophe : b ≢ 39
