-- What a flush makes of a text that was put into a buffer.
use Rattle.std.proofs.Common.{◌≡◌, ℕ, List, [], Option, subst, sym, arith, rules}
use Rattle.std.specs.Io.KnownBytes.{Appends, Keeps, append_known}
use Rattle.rom_fields.specs.Failures.{Rose, one_more}
use Rattle.rom_fields.proofs.Joins.{appends_keep}

-- the reply to a line was put into a buffer that was empty, and still is behind what the writer held
pub still_put : (w u v : Option (List ℕ)) (empty part rest text line : List ℕ) (reply : List ℕ → List ℕ) → empty ≡ []
    → text ≡ line
    → Appends (append_known w empty) (append_known u part) (reply text)
    → Keeps (append_known u part) (append_known v rest)
    → Appends (append_known w []) (append_known v rest) (reply line)
still_put w u v empty part rest text line reply none same put kept =
    appends_keep (append_known w []) (append_known u part) (append_known v rest) (reply line)
    (subst (λ t. Appends (append_known w []) (append_known u part) (reply t)) same
    (subst (λ e. Appends (append_known w e) (append_known u part) (reply text)) none put)) kept

rose_one : (n : ℕ) → Rose n (one_more n)
rose_one n = search (rules, arith)

-- a flush that failed is counted
pub failed_counts : (a b c : ℕ) → b ≡ a → c ≡ one_more b → Rose a c
failed_counts a b c e h = subst (λ k. Rose k c) e (subst (λ k. Rose b k) (sym h) (rose_one b))
