-- The line of a device as it is formatted, and the lines of one device more.
use Rattle.std.proofs.Common.{◌≡◌, ℕ, ◌+◌, ◌<◌, List, [], ◌∷◌, ◌++◌, length, take, get_or, sym, ap, ◌∙◌, append_assoc}
use Rattle.std.proofs.lemmas.List.{append-nil, take_more}
use Rattle.build_commands.specs.Devices.{DeviceWords, nod_line, nod_lines}

-- the parts of a line are joined one after the other
pub regrouped : (p a m b k c j d n e : List ℕ)
    → ((((((((p ++ a) ++ m) ++ b) ++ k) ++ c) ++ j) ++ d) ++ n) ++ e
    ≡ p ++ (a ++ (m ++ (b ++ (k ++ (c ++ (j ++ (d ++ (n ++ e))))))))
regrouped p a m b k c j d n e =
    append_assoc ((((((((p ++ a) ++ m) ++ b) ++ k) ++ c) ++ j) ++ d)) n e
    ∙ append_assoc (((((((p ++ a) ++ m) ++ b) ++ k) ++ c) ++ j)) d (n ++ e)
    ∙ append_assoc ((((((p ++ a) ++ m) ++ b) ++ k) ++ c)) j (d ++ (n ++ e))
    ∙ append_assoc (((((p ++ a) ++ m) ++ b) ++ k)) c (j ++ (d ++ (n ++ e)))
    ∙ append_assoc ((((p ++ a) ++ m) ++ b)) k (c ++ (j ++ (d ++ (n ++ e))))
    ∙ append_assoc (((p ++ a) ++ m)) b (k ++ (c ++ (j ++ (d ++ (n ++ e)))))
    ∙ append_assoc (p ++ a) m (b ++ (k ++ (c ++ (j ++ (d ++ (n ++ e))))))
    ∙ append_assoc p a (m ++ (b ++ (k ++ (c ++ (j ++ (d ++ (n ++ e)))))))

pushed : (ds : List DeviceWords) (d : DeviceWords) → nod_lines (ds ++ d ∷ []) ≡ nod_lines ds ++ nod_line d
pushed [] d = append-nil (nod_line d)
pushed (e ∷ ds) d =
    ap (λ (rest : List ℕ). nod_line e ++ rest) (pushed ds d)
    ∙ sym (append_assoc (nod_line e) (nod_lines ds) (nod_line d))

pub one_more : (ds : List DeviceWords) (i : ℕ) (d : DeviceWords) → i < length ds
    → nod_lines (take (i + 1) ds) ≡ nod_lines (take i ds) ++ nod_line (get_or ds i d)
one_more ds i d h = ap nod_lines (take_more ds i d h) ∙ pushed (take i ds) (get_or ds i d)
