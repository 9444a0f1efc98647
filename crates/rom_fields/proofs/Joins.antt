-- How appended texts join.
use Rattle.std.proofs.Common.{◌≡◌, ℕ, ◌+◌, ◌-◌, ◌≤◌, List, [], ◌++◌, length, Option, Some, None, Result, Ok, Err, refl}
use Rattle.std.proofs.Common.{sym, ap, ◌∙◌, rules, arith, append_assoc, append-nil, subst, IsErr, take, drop}
use Rattle.std.proofs.Common.{take-append-drop, length-drop, true, false, Bool}
use Rattle.std.proofs.Math.Seq.{take-add}
use Rattle.std.proofs.lemmas.List.{take_rest}
use Rattle.std.specs.Io.KnownBytes.{Appends, Keeps}
use Rattle.rom_fields.specs.Failures.{Rose, Counts}
use Rattle.rom_fields.specs.Written.{AppendsPrefix, WritesText, Output, Sink, sink, Said, Counted, Puts}

pub appends_none : (a : Option (List ℕ)) → Appends a a []
appends_none None = search rules
appends_none (Some xs) = search (rules, append-nil)

pub appends_join : (a b c : Option (List ℕ)) (s t : List ℕ) → Appends a b s → Appends b c t → Appends a c (s ++ t)
appends_join None b c s t h k = search rules
appends_join (Some xs) None c s t h k = absurd h
appends_join (Some xs) (Some ys) None s t h k = absurd k
appends_join (Some xs) (Some ys) (Some zs) s t h k = k ∙ (ap (λ (v : List ℕ). v ++ t) h ∙ append_assoc xs s t)

pub keeps_appends : (a b : Option (List ℕ)) → Keeps a b → Appends a b []
keeps_appends None b h = search rules
keeps_appends (Some xs) None h = absurd h
keeps_appends (Some xs) (Some ys) h = h ∙ sym (append-nil xs)

-- after a whole text, a prefix of the next one is a prefix of both
pub front_after : (a b c : Option (List ℕ)) (s t : List ℕ) → Appends a b s → AppendsPrefix b c t
    → AppendsPrefix a c (s ++ t)
front_after a b c s t h k =
    (s ++ k.0, k.1, appends_join a b c s k.0 h k.2, ap (λ (v : List ℕ). s ++ v) k.3 ∙ sym (append_assoc s k.0 k.1))

-- a prefix of the first text is a prefix of both
pub front_first : (a b : Option (List ℕ)) (s t : List ℕ) → AppendsPrefix a b s → AppendsPrefix a b (s ++ t)
front_first a b s t h = (h.0, h.1 ++ t, h.2, ap (λ (v : List ℕ). v ++ t) h.3 ∙ append_assoc h.0 h.1 t)

pub front_all : (a b : Option (List ℕ)) (s : List ℕ) → Appends a b s → AppendsPrefix a b s
front_all a b s h = (s, [], h, sym (append-nil s))

pub rose_after : (a b c : ℕ) → b ≡ a → Rose b c → Rose a c
rose_after a b c e h = rw (← e) h

-- a prefix of the list that was appended
pub front_take : (a b : Option (List ℕ)) (s : List ℕ) (n : ℕ) → Appends a b (take n s) → AppendsPrefix a b s
front_take a b s n h = (take n s, drop n s, h, sym (take-append-drop n s))

pub err_text : {T E : Type 0} (r : Result T E) (a b : Option (List ℕ)) (t : List ℕ) → IsErr r → AppendsPrefix a b t
    → WritesText a b r t
err_text (Ok v) a b t e h = absurd (search rules)
err_text (Err v) a b t e h = h

pub err_counts : {T E : Type 0} (r : Result T E) (a b : ℕ) → IsErr r → Rose a b → Counts a b r
err_counts (Ok v) a b e h = absurd (search rules)
err_counts (Err v) a b e h = h

pub appends_take : (a b c : Option (List ℕ)) (s : List ℕ) (i n : ℕ) → Appends a b (take i s)
    → Appends b c (take n (drop i s)) → Appends a c (take (i + n) s)
appends_take a b c s i n h k = rw (take-add i n s) (appends_join a b c (take i s) (take n (drop i s)) h k)

pub appends_keep : (a b c : Option (List ℕ)) (s : List ℕ) → Appends a b s → Keeps b c → Appends a c s
appends_keep a b c s h k = let P : List ℕ → Type 0 =
    λ v. Appends a c v in subst P (append-nil s) (appends_join a b c s [] h (keeps_appends b c k))

tail_is : (s : List ℕ) (i : ℕ) → take (length s - i) (drop i s) ≡ drop i s
tail_is s i = take_rest s i

pub appends_tail : (a b c : Option (List ℕ)) (s : List ℕ) (i n : ℕ) → Appends a b (take i s)
    → Appends b c (take n (take (length s - i) (drop i s))) → Appends a c (take (i + n) s)
appends_tail a b c s i n h k = let e = tail_is s i in appends_take a b c s i n h (rw e at k)

pub within_tail : (s : List ℕ) (i n : ℕ) → i ≤ length s → n ≤ length (take (length s - i) (drop i s)) → i + n ≤ length s
within_tail s i n h k = let e = tail_is s i in let q = rw e at k in omega (arith, length-drop i s)

pub puts_nothing : (s : Sink) → Puts s s []
puts_nothing s = record {
  said = λ start all h. let P : List ℕ → Type 0 = λ v. Said start s v in subst P (sym (append-nil all)) h;
  counted = λ start h. h;
  unflushed = refl;
}

pub puts_then : (r s t : Sink) (a b : List ℕ) → Puts r s a → Puts s t b → Puts r t (a ++ b)
puts_then r s t a b h k = record {
  said = λ start all v. let P : List ℕ → Type 0 =
      λ w. Said start t w in subst P (append_assoc all a b) (k.said start (all ++ a) (h.said start all v));
  counted = λ start v. k.counted start (h.counted start v);
  unflushed = k.unflushed ∙ h.unflushed;
}

pub puts_to_failed : (o : Output) (b : List ℕ) → Puts (sink o true) (sink o true) b
unfolding Said Counted
puts_to_failed o b = record {
  said = λ start all v. front_first start o.contents all b v;
  counted = λ start v. v;
  unflushed = refl;
}

pub puts_ok : (o p : Output) (b : List ℕ) → Appends o.contents p.contents b → p.failures ≡ o.failures
    → p.flushes ≡ o.flushes
    → Puts (sink o false) (sink p false) b
unfolding Said Counted
puts_ok o p b h e f = record {
  said = λ start all v. appends_join start o.contents p.contents all b v h;
  counted = λ start v. e ∙ v;
  unflushed = f;
}

pub puts_err : (o p : Output) (b : List ℕ) → AppendsPrefix o.contents p.contents b → Rose o.failures p.failures
    → p.flushes ≡ o.flushes
    → Puts (sink o false) (sink p true) b
unfolding Said Counted
puts_err o p b h e f = record {
  said = λ start all v. front_after start o.contents p.contents all b v h;
  counted = λ start v. rose_after start o.failures p.failures v e;
  unflushed = f;
}

-- one text after the other
pub chain : {r s t : Sink} {a b : List ℕ} → Puts r s a → Puts s t b → Puts r t (a ++ b)
chain {r} {s} {t} {a} {b} h k = puts_then r s t a b h k

-- what was put into a sink that had not failed
pub said_ok : (o p : Output) (f : Bool) (text : List ℕ) → f ≡ false → Puts (sink o false) (sink p f) text
    → Appends o.contents p.contents text
unfolding Said
said_ok o p f text e h = let P : Bool → Type 0 =
    λ v. Said o.contents (sink p v) text in let q : Said o.contents (sink p false) text =
    subst P e (h.said o.contents [] (appends_none o.contents)) in q

pub said_front : (o p : Output) (f : Bool) (text : List ℕ) → f ≡ true → Puts (sink o false) (sink p f) text
    → AppendsPrefix o.contents p.contents text
unfolding Said
said_front o p f text e h = let P : Bool → Type 0 =
    λ v. Said o.contents (sink p v) text in let q : Said o.contents (sink p true) text =
    subst P e (h.said o.contents [] (appends_none o.contents)) in q

pub said_rose : (o p : Output) (f : Bool) (text : List ℕ) → f ≡ true → Puts (sink o false) (sink p f) text
    → Rose o.failures p.failures
unfolding Counted
said_rose o p f text e h = let P : Bool → Type 0 =
    λ v. Counted o.failures (sink p v) in let q : Counted o.failures (sink p true) =
    subst P e (h.counted o.failures refl) in q

pub said_quiet : (o p : Output) (f : Bool) (text : List ℕ) → f ≡ false → Puts (sink o false) (sink p f) text
    → p.failures ≡ o.failures
unfolding Counted
said_quiet o p f text e h = let P : Bool → Type 0 =
    λ v. Counted o.failures (sink p v) in let q : Counted o.failures (sink p false) =
    subst P e (h.counted o.failures refl) in q
