-- What has been read and written at a moment of a run, and how it goes on.
use Rattle.std.proofs.Common.{◌≡◌, ℕ, ◌+◌, ◌<◌, ◌≤◌, Bool, true, false, ◌==◌, List, [], ◌∷◌, ◌++◌, Option, length, take}
use Rattle.std.proofs.Common.{refl, sym, ap, ◌∙◌, append_assoc, append-nil, arith, cond, subst, ◌-◌, length-append}
use Rattle.std.proofs.Common.{Some, None, zero, suc, ◌≢◌}
use Rattle.rom_fields.specs.Failures.{Rose, one_more, after_flushes}
use Rattle.std.proofs.Math.Seq.{take-append_seam}
use Rattle.std.proofs.lemmas.List.{take_all}
use Rattle.std.proofs.lemmas.Bool.Decides.{nat_tests}
use Rattle.std.specs.Io.KnownBytes.{Appends, Consumes, Keeps, IsAtEnd}
use Rattle.std.proofs.KnownBytes.{Appends-trans, Consumes-trans, Appends-nil, Consumes-nil, Consumes-kept}
use Rattle.std.specs.Prelude.{map, ◌||◌}
use Rattle.std.specs.List.{list_any}
use Rattle.rom_fields.specs.Written.{AppendsPrefix, Output}
use Rattle.serve_lines.specs.Served.{Machine, Exchange, ForgetsLong, ReadsUpTo, exchanges, replies_text, last_line}
use Rattle.serve_lines.specs.Served.{lines_after, whole_lines_after, but_last, IsFront, Serves, Finishes, Breaks}
use Rattle.serve_lines.specs.Served.{last_reply, used_after, line_feed}

-- y was read, these exchanges were written and flushed one after the other, the machine is in state s, and the
-- unfinished line is `line`
pub record Run {S : Type 0} (m : Machine S) (start : S) (r₀ r : Option (List ℕ)) (w₀ w : Output) (s : S) (line : List ℕ)
    (count : ℕ) : Type 0 where
  pub y : List ℕ
  pub known : List Exchange
  pub read : Consumes r₀ r y
  pub wrote : Appends w₀.contents w.contents (replies_text known)
  pub flushed : w.flushes ≡ after_flushes w₀.flushes (length known)
  pub served-on : (z : List ℕ) → exchanges m start (lines_after [] (y ++ z))
      ≡ known ++ exchanges m s (lines_after line z)
  pub finished-on : (z : List ℕ) → exchanges m start (whole_lines_after [] (y ++ z))
      ≡ known ++ exchanges m s (whole_lines_after line z)
  pub used-on : (z : List ℕ) → used_after m [] (y ++ z) ≡ y ++ used_after m line z
  pub goes-on : (z : List ℕ) → list_any m.ends (whole_lines_after [] (y ++ z))
      ≡ list_any m.ends (whole_lines_after line z)
  pub counted : length y ≡ count
  pub held : 0 < length line → exchanges m start (whole_lines_after [] (but_last y)) ≡ known
  pub held-on : 0 < length line → list_any m.ends (whole_lines_after [] (but_last y)) ≡ false

pub replies-append : (es fs : List Exchange) → replies_text (es ++ fs) ≡ replies_text es ++ replies_text fs
replies-append [] fs = refl
replies-append (e ∷ es) fs =
    ap (λ t. e.reply ++ t) (replies-append es fs) ∙ sym (append_assoc e.reply (replies_text es) (replies_text fs))

-- one exchange more
pub replies-one : (es : List Exchange) (e : Exchange) → replies_text (es ++ e ∷ []) ≡ replies_text es ++ e.reply
replies-one es e = replies-append es (e ∷ []) ∙ ap (λ t. replies_text es ++ t) (append-nil e.reply)

pub length-one : (es : List Exchange) (e : Exchange) → length (es ++ e ∷ []) ≡ suc (length es)
length-one [] e = refl
length-one (d ∷ es) e = ap suc (length-one es e)

-- one flush more
pub flushes-one : (w₀ w w' : ℕ) (es : List Exchange) (e : Exchange) → w ≡ after_flushes w₀ (length es) → w' ≡ one_more w
    → w' ≡ after_flushes w₀ (length (es ++ e ∷ []))
flushes-one w₀ w w' es e h k = k ∙ ap one_more h ∙ ap (after_flushes w₀) (sym (length-one es e))

module _ {S : Type 0} (m : Machine S) where
  abbrev pub exchange : S → List ℕ → Exchange
  exchange s line = record { line = line; reply = m.reply s line }

  pub begin : (start : S) (r : Option (List ℕ)) (w : Output) → Run m start r r w w start [] 0
  begin start r w = record {
    y = [];
    known = [];
    read = Consumes-nil r;
    wrote = Appends-nil w.contents;
    flushed = refl;
    served-on = λ z. refl;
    finished-on = λ z. refl;
    used-on = λ z. refl;
    goes-on = λ z. refl;
    counted = refl;
    held = λ h. absurd (omega (arith, h));
    held-on = λ h. absurd (omega (arith, h));
  }

  served-byte : (s : S) (line : List ℕ) (b : ℕ) (z : List ℕ) → (b == line_feed) ≡ false
      → exchanges m s (lines_after line (b ∷ z)) ≡ exchanges m s (lines_after (line ++ b ∷ []) z)
  unfolding lines_after
  served-byte s line b z h =
      ap (λ (t : Bool). exchanges m s (cond t (line ∷ lines_after [] z) (lines_after (line ++ b ∷ []) z))) h

  whole-byte : (line : List ℕ) (b : ℕ) (z : List ℕ) → (b == line_feed) ≡ false
      → whole_lines_after line (b ∷ z) ≡ whole_lines_after (line ++ b ∷ []) z
  unfolding whole_lines_after
  whole-byte line b z h =
      ap (λ (t : Bool). cond t (line ∷ whole_lines_after [] z) (whole_lines_after (line ++ b ∷ []) z)) h

  used-byte : (line : List ℕ) (b : ℕ) (z : List ℕ) → (b == line_feed) ≡ false
      → used_after m line (b ∷ z) ≡ b ∷ used_after m (line ++ b ∷ []) z
  unfolding used_after
  used-byte line b z h =
      ap (λ t. b ∷ cond t (cond (m.ends line) [] (used_after m [] z)) (used_after m (line ++ b ∷ []) z)) h

  but_last-byte : (y : List ℕ) (b : ℕ) → but_last (y ++ b ∷ []) ≡ y
  but_last-byte y b =
      let n : length (y ++ b ∷ []) - 1 ≡ length y = omega (arith, length-append y (b ∷ [])) in
      ap (λ k. take k (y ++ b ∷ [])) n ∙ take-append_seam y (b ∷ [])

  no-lines : (line : List ℕ) → whole_lines_after line [] ≡ []
  unfolding whole_lines_after
  no-lines line = refl

  no-exchanges : (s : S) → exchanges m s [] ≡ []
  unfolding exchanges
  no-exchanges s = refl

  -- what was written are the replies to the finished lines
  finished-so-far : (start : S) (r₀ r : Option (List ℕ)) (w₀ w : Output) (s : S) (line : List ℕ) (count : ℕ)
      → (run : Run m start r₀ r w₀ w s line count) → exchanges m start (whole_lines_after [] run.y) ≡ run.known
  finished-so-far start r₀ r w₀ w s line count run =
      ap (λ t. exchanges m start (whole_lines_after [] t)) (sym (append-nil run.y)) ∙ run.finished-on []
      ∙ ap (λ t. run.known ++ exchanges m s t) (no-lines line) ∙ ap (λ t. run.known ++ t) (no-exchanges s)
      ∙ append-nil run.known

  -- none of them ended the serving
  on-so-far : (start : S) (r₀ r : Option (List ℕ)) (w₀ w : Output) (s : S) (line : List ℕ) (count : ℕ)
      → (run : Run m start r₀ r w₀ w s line count) → list_any m.ends (whole_lines_after [] run.y) ≡ false
  on-so-far start r₀ r w₀ w s line count run =
      ap (λ t. list_any m.ends (whole_lines_after [] t)) (sym (append-nil run.y)) ∙ run.goes-on []
      ∙ ap (λ t. list_any m.ends t) (no-lines line)

  no-use : (line : List ℕ) → used_after m line [] ≡ []
  unfolding used_after
  no-use line = refl

  used-so-far : (start : S) (r₀ r : Option (List ℕ)) (w₀ w : Output) (s : S) (line : List ℕ) (count : ℕ)
      → (run : Run m start r₀ r w₀ w s line count) → used_after m [] run.y ≡ run.y
  used-so-far start r₀ r w₀ w s line count run =
      ap (λ t. used_after m [] t) (sym (append-nil run.y)) ∙ run.used-on [] ∙ ap (λ t. run.y ++ t) (no-use line)
      ∙ append-nil run.y

  -- a byte that ends no line
  pub more : (start : S) (r₀ r r' : Option (List ℕ)) (w₀ w : Output) (s : S) (line : List ℕ) (count b : ℕ)
      → (b == line_feed) ≡ false
      → Run m start r₀ r w₀ w s line count → Consumes r r' (b ∷ [])
      → Run m start r₀ r' w₀ w s (line ++ b ∷ []) (count + 1)
  more start r₀ r r' w₀ w s line count b h run read = record {
    y = run.y ++ b ∷ [];
    known = run.known;
    read = Consumes-trans r₀ r r' run.y (b ∷ []) run.read read;
    wrote = run.wrote;
    flushed = run.flushed;
    served-on = λ z. ap (λ t. exchanges m start (lines_after [] t)) (append_assoc run.y (b ∷ []) z)
        ∙ run.served-on (b ∷ z) ∙ ap (λ t. run.known ++ t) (served-byte s line b z h);
    finished-on = λ z. ap (λ t. exchanges m start (whole_lines_after [] t)) (append_assoc run.y (b ∷ []) z)
        ∙ run.finished-on (b ∷ z) ∙ ap (λ t. run.known ++ exchanges m s t) (whole-byte line b z h);
    used-on = λ z. ap (used_after m []) (append_assoc run.y (b ∷ []) z) ∙ run.used-on (b ∷ z)
        ∙ ap (λ t. run.y ++ t) (used-byte line b z h)
        ∙ sym (append_assoc run.y (b ∷ []) (used_after m (line ++ b ∷ []) z));
    goes-on = λ z. ap (λ t. list_any m.ends (whole_lines_after [] t)) (append_assoc run.y (b ∷ []) z)
        ∙ run.goes-on (b ∷ z) ∙ ap (λ t. list_any m.ends t) (whole-byte line b z h);
    counted = omega (arith, run.counted, length-append run.y (b ∷ []));
    held = λ _. ap (λ t. exchanges m start (whole_lines_after [] t)) (but_last-byte run.y b)
        ∙ finished-so-far start r₀ r w₀ w s line count run;
    held-on = λ _. ap (λ t. list_any m.ends (whole_lines_after [] t)) (but_last-byte run.y b)
        ∙ on-so-far start r₀ r w₀ w s line count run;
  }

  -- the exchange of a finished line, and those behind it
  first-exchange : (s : S) (line : List ℕ) (ls : List (List ℕ)) → m.ends line ≡ false
      → exchanges m s (line ∷ ls) ≡ exchange s line ∷ exchanges m (m.next s line) ls
  unfolding exchanges
  first-exchange s line ls h = ap (λ (t : Bool). exchange s line ∷ cond t [] (exchanges m (m.next s line) ls)) h

  last-exchange : (s : S) (line : List ℕ) (ls : List (List ℕ)) → m.ends line ≡ true
      → exchanges m s (line ∷ ls) ≡ exchange s line ∷ []
  unfolding exchanges
  last-exchange s line ls h = ap (λ (t : Bool). exchange s line ∷ cond t [] (exchanges m (m.next s line) ls)) h

  feed-line : (line z : List ℕ) → lines_after line (line_feed ∷ z) ≡ line ∷ lines_after [] z
  unfolding lines_after
  feed-line line z = refl

  feed-whole : (line z : List ℕ) → whole_lines_after line (line_feed ∷ z) ≡ line ∷ whole_lines_after [] z
  unfolding whole_lines_after
  feed-whole line z = refl

  none-of-both : (line : List ℕ) (ls : List (List ℕ)) → m.ends line ≡ false
      → list_any m.ends (line ∷ ls) ≡ list_any m.ends ls
  none-of-both line ls h = ap (λ (t : Bool). t || list_any m.ends ls) h

  used-line : (line z : List ℕ) → m.ends line ≡ false
      → used_after m line (line_feed ∷ z) ≡ line_feed ∷ used_after m [] z
  unfolding used_after
  used-line line z h = ap (λ t. line_feed ∷ cond t [] (used_after m [] z)) h

  nothing-used : (t : Bool) → cond t [] (used_after m [] []) ≡ []
  unfolding used_after
  nothing-used true = refl
  nothing-used false = refl

  -- the line feed is used, whether the line ends the serving or not
  used-feed : (line : List ℕ) → used_after m line (line_feed ∷ []) ≡ line_feed ∷ []
  unfolding used_after
  used-feed line = ap (λ t. line_feed ∷ t) (nothing-used (m.ends line))

  -- a line that was answered, and not the last
  pub answered : (start : S) (r₀ r r' : Option (List ℕ)) (w₀ w w' : Output) (s : S) (line : List ℕ) (count : ℕ)
      → m.ends line ≡ false
      → Run m start r₀ r w₀ w s line count → Consumes r r' (line_feed ∷ [])
      → Appends w.contents w'.contents (m.reply s line) → w'.flushes ≡ one_more w.flushes
      → Run m start r₀ r' w₀ w' (m.next s line) [] (count + 1)
  answered start r₀ r r' w₀ w w' s line count h run read wrote flushed =
      let e = exchange s line in record {
        y = run.y ++ line_feed ∷ [];
        known = run.known ++ e ∷ [];
        read = Consumes-trans r₀ r r' run.y (line_feed ∷ []) run.read read;
        wrote = subst (Appends w₀.contents w'.contents) (sym (replies-one run.known e))
            (Appends-trans w₀.contents w.contents w'.contents (replies_text run.known)
            (m.reply s line) run.wrote wrote);
        flushed = flushes-one w₀.flushes w.flushes w'.flushes run.known e run.flushed flushed;
        served-on = λ z. ap (λ t. exchanges m start (lines_after [] t)) (append_assoc run.y (line_feed ∷ []) z)
            ∙ run.served-on (line_feed ∷ z)
            ∙ ap (λ t. run.known ++ exchanges m s t) (feed-line line z)
            ∙ ap (λ t. run.known ++ t) (first-exchange s line (lines_after [] z) h)
            ∙ sym (append_assoc run.known (e ∷ []) (exchanges m (m.next s line) (lines_after [] z)));
        finished-on = λ z. ap (λ t. exchanges m start (whole_lines_after [] t)) (append_assoc run.y (line_feed ∷ []) z)
            ∙ run.finished-on (line_feed ∷ z)
            ∙ ap (λ t. run.known ++ exchanges m s t) (feed-whole line z)
            ∙ ap (λ t. run.known ++ t) (first-exchange s line (whole_lines_after [] z) h)
            ∙ sym (append_assoc run.known (e ∷ []) (exchanges m (m.next s line) (whole_lines_after [] z)));
        used-on = λ z. ap (used_after m []) (append_assoc run.y (line_feed ∷ []) z) ∙ run.used-on (line_feed ∷ z)
            ∙ ap (λ t. run.y ++ t) (used-line line z h)
            ∙ sym (append_assoc run.y (line_feed ∷ []) (used_after m [] z));
        goes-on = λ z. ap (λ t. list_any m.ends (whole_lines_after [] t)) (append_assoc run.y (line_feed ∷ []) z)
            ∙ run.goes-on (line_feed ∷ z)
            ∙ ap (λ t. list_any m.ends t) (feed-whole line z) ∙ none-of-both line (whole_lines_after [] z) h;
        counted = omega (arith, run.counted, length-append run.y (line_feed ∷ []));
        held = λ h. absurd (omega (arith, h));
        held-on = λ h. absurd (omega (arith, h));
      }

  -- the reader or the count of reads came to its end in mid-stream
  pub stops : (start : S) (r₀ r : Option (List ℕ)) (w₀ w : Output) (s : S) (line : List ℕ) (count : ℕ)
      → Run m start r₀ r w₀ w s line count → (y : List ℕ) × (length y ≡ count) × Finishes m start r₀ r w₀ w y
  stops start r₀ r w₀ w s line count run =
      let known = finished-so-far start r₀ r w₀ w s line count run in (
        run.y,
        run.counted,
        record {
          read = run.read;
          uses = used-so-far start r₀ r w₀ w s line count run;
          goes_on = on-so-far start r₀ r w₀ w s line count run;
          wrote = subst (Appends w₀.contents w.contents) (ap replies_text (sym known)) run.wrote;
          flushed = run.flushed ∙ ap (λ t. after_flushes w₀.flushes (length t)) (sym known);
        },
      )

  -- the exchanges of a last line without its line feed
  ends-one : (s : S) (line : List ℕ) (t : Bool) → cond t [] (exchanges m s []) ≡ []
  unfolding exchanges
  ends-one s line true = refl
  ends-one s line false = refl

  last-exchanges : (s : S) (line : List ℕ) → exchanges m s (last_line line) ≡ map (exchange s) (last_line line)
  unfolding exchanges
  last-exchanges s [] = refl
  last-exchanges s (b ∷ line) =
      ap (λ t. exchange s (b ∷ line) ∷ t) (ends-one (m.next s (b ∷ line)) (b ∷ line) (m.ends (b ∷ line)))

  no-more : (line : List ℕ) → lines_after line [] ≡ last_line line
  unfolding lines_after
  no-more line = refl

  last-text : (s : S) (line : List ℕ) → replies_text (map (exchange s) (last_line line)) ≡ last_reply m s line
  last-text s [] = refl
  last-text s (b ∷ line) = append-nil (m.reply s (b ∷ line))

  -- all exchanges of an input that ends behind the unfinished line
  pub whole : (start : S) (r₀ r : Option (List ℕ)) (w₀ w : Output) (s : S) (line : List ℕ) (count : ℕ)
      → (run : Run m start r₀ r w₀ w s line count)
      → exchanges m start (lines_after [] run.y) ≡ run.known ++ map (exchange s) (last_line line)
  whole start r₀ r w₀ w s line count run =
      ap (λ t. exchanges m start (lines_after [] t)) (sym (append-nil run.y)) ∙ run.served-on []
      ∙ ap (λ t. run.known ++ exchanges m s t) (no-more line) ∙ ap (λ t. run.known ++ t) (last-exchanges s line)

  used-last : (line z : List ℕ) → m.ends line ≡ true → used_after m line (line_feed ∷ z) ≡ line_feed ∷ []
  unfolding used_after
  used-last line z h = ap (λ t. line_feed ∷ cond t [] (used_after m [] z)) h

  -- the line that ends the serving was answered
  pub quits : (start : S) (r₀ r r' : Option (List ℕ)) (w₀ w w' : Output) (s : S) (line : List ℕ) (count : ℕ)
      → m.ends line ≡ true
      → Run m start r₀ r w₀ w s line count → Consumes r r' (line_feed ∷ [])
      → Appends w.contents w'.contents (m.reply s line) → w'.flushes ≡ one_more w.flushes
      → Serves m start r₀ r' w₀ w'
  quits start None r r' w₀ w w' s line count h run read wrote flushed = tt
  quits start (Some x) None r' w₀ w w' s line count h run read wrote flushed = absurd run.read
  quits start (Some x) (Some q) None w₀ w w' s line count h run read wrote flushed = absurd read
  quits start (Some x) (Some q) (Some z) w₀ w w' s line count h run read wrote flushed =
      let e = exchange s line in
      let split : x ≡ run.y ++ line_feed ∷ z = run.read ∙ ap (λ t. run.y ++ t) read in
      let all : used_after m [] x ≡ run.y ++ line_feed ∷ [] =
      ap (used_after m []) split ∙ run.used-on (line_feed ∷ z) ∙ ap (λ t. run.y ++ t) (used-last line z h) in
      let known : exchanges m start (lines_after [] x) ≡ run.known ++ e ∷ [] =
      ap (λ t. exchanges m start (lines_after [] t)) split ∙ run.served-on (line_feed ∷ z)
      ∙ ap (λ t. run.known ++ exchanges m s t) (feed-line line z)
      ∙ ap (λ t. run.known ++ t) (last-exchange s line (lines_after [] z) h) in (
        split ∙ sym (append_assoc run.y (line_feed ∷ []) z) ∙ ap (λ t. t ++ z) (sym all),
        subst (Appends w₀.contents w'.contents) (sym (ap replies_text known ∙ replies-one run.known e))
            (Appends-trans w₀.contents w.contents w'.contents (replies_text run.known)
            (m.reply s line) run.wrote wrote),
        flushes-one w₀.flushes w.flushes w'.flushes run.known e run.flushed flushed
            ∙ ap (λ t. after_flushes w₀.flushes (length t)) (sym known),
      )

  -- the flushes of the unfinished line
  last-flushed : (w₀ w w' : ℕ) (es : List Exchange) (s : S) (line : List ℕ) → w ≡ after_flushes w₀ (length es)
      → w' ≡ after_flushes w (length (last_line line))
      → w' ≡ after_flushes w₀ (length (es ++ map (exchange s) (last_line line)))
  last-flushed w₀ w w' es s [] h k = k ∙ h ∙ ap (λ t. after_flushes w₀ (length t)) (sym (append-nil es))
  last-flushed w₀ w w' es s (b ∷ line) h k = flushes-one w₀ w w' es (exchange s (b ∷ line)) h k

  -- the input ended, and the unfinished line was answered
  pub ended : (start : S) (r₀ r : Option (List ℕ)) (w₀ w w' : Output) (s : S) (line : List ℕ) (count : ℕ)
      → Run m start r₀ r w₀ w s line count → IsAtEnd r → Appends w.contents w'.contents (last_reply m s line)
      → w'.flushes ≡ after_flushes w.flushes (length (last_line line))
      → Serves m start r₀ r w₀ w'
  ended start None r w₀ w w' s line count run at_end wrote flushed = tt
  ended start (Some x) None w₀ w w' s line count run at_end wrote flushed = absurd run.read
  ended start (Some x) (Some q) w₀ w w' s line count run at_end wrote flushed =
      let split : x ≡ run.y ++ [] = run.read ∙ ap (λ t. run.y ++ t) at_end in
      let same : x ≡ run.y = split ∙ append-nil run.y in
      let all : used_after m [] x ≡ run.y =
      ap (used_after m []) same ∙ used-so-far start (Some x) (Some q) w₀ w s line count run in
      let known : exchanges m start (lines_after [] x) ≡ run.known ++ map (exchange s) (last_line line) =
      ap (λ t. exchanges m start (lines_after [] t)) same ∙ whole start (Some x) (Some q) w₀ w s line count run in
      let text : replies_text (exchanges m start (lines_after [] x)) ≡ replies_text run.known ++ last_reply m s line =
      ap replies_text known ∙ replies-append run.known (map (exchange s) (last_line line))
      ∙ ap (λ t. replies_text run.known ++ t) (last-text s line) in (
        run.read ∙ ap (λ t. t ++ q) (sym all),
        subst (Appends w₀.contents w'.contents) (sym text)
            (Appends-trans w₀.contents w.contents w'.contents (replies_text run.known)
            (last_reply m s line) run.wrote wrote),
        last-flushed w₀.flushes w.flushes w'.flushes run.known s line run.flushed flushed
            ∙ ap (λ t. after_flushes w₀.flushes (length t)) (sym known),
      )

  -- the replies to what follows begin with that to the line
  served-front : (s : S) (line : List ℕ) (ls : List (List ℕ))
      → IsFront (m.reply s line) (replies_text (exchanges m s (line ∷ ls)))
  unfolding exchanges
  served-front s line ls = (replies_text (cond (m.ends line) [] (exchanges m (m.next s line) ls)), refl)

  -- a reply to a finished line was written in part
  pub breaks : (start : S) (r₀ r r' : Option (List ℕ)) (w₀ w w' : Output) (s : S) (line : List ℕ) (count : ℕ)
      (part : List ℕ)
      → Run m start r₀ r w₀ w s line count → Consumes r r' (line_feed ∷ []) → Appends w.contents w'.contents part
      → IsFront part (m.reply s line) → w'.flushes ≡ w.flushes
      → Breaks m start r₀ r' w₀ w'
  breaks start r₀ r r' w₀ w w' s line count part run read wrote front flushed =
      let y = run.y ++ line_feed ∷ [] in
      let more = served-front s line (lines_after [] []) in
      let text : replies_text (exchanges m start (lines_after [] y))
      ≡ (replies_text run.known ++ part) ++ (front.0 ++ more.0) =
      ap replies_text (run.served-on (line_feed ∷ []) ∙ ap (λ t. run.known ++ exchanges m s t) (feed-line line []))
      ∙ replies-append run.known (exchanges m s (line ∷ lines_after [] []))
      ∙ ap (λ t. replies_text run.known ++ t) (more.1 ∙ ap (λ t. t ++ more.0) front.1
      ∙ append_assoc part front.0 more.0)
      ∙ sym (append_assoc (replies_text run.known) part (front.0 ++ more.0)) in
      let before : exchanges m start (whole_lines_after [] (but_last y)) ≡ run.known =
      ap (λ t. exchanges m start (whole_lines_after [] t)) (but_last-byte run.y line_feed)
      ∙ finished-so-far start r₀ r w₀ w s line count run in
      record {
        y = y;
        out = replies_text run.known ++ part;
        read = Consumes-trans r₀ r r' run.y (line_feed ∷ []) run.read read;
        uses = run.used-on (line_feed ∷ []) ∙ ap (λ t. run.y ++ t) (used-feed line);
        goes_on = ap (λ t. list_any m.ends (whole_lines_after [] t)) (but_last-byte run.y line_feed)
            ∙ on-so-far start r₀ r w₀ w s line count run;
        wrote = Appends-trans w₀.contents w.contents w'.contents (replies_text run.known) part run.wrote wrote;
        front = (front.0 ++ more.0, text);
        holds = (part, ap (λ t. replies_text t ++ part) (sym before));
        flushed = flushed ∙ run.flushed ∙ ap (λ t. after_flushes w₀.flushes (length t)) (sym before);
      }

  -- a reply to a last line without its line feed was written in part
  pub breaks_at_end : (start : S) (r₀ r : Option (List ℕ)) (w₀ w w' : Output) (s : S) (line : List ℕ) (count : ℕ)
      (part : List ℕ)
      → Run m start r₀ r w₀ w s line count → 0 < length line → Appends w.contents w'.contents part
      → IsFront part (m.reply s line) → w'.flushes ≡ w.flushes
      → Breaks m start r₀ r w₀ w'
  breaks_at_end start r₀ r w₀ w w' s [] count part run some wrote front flushed = absurd (omega (arith, some))
  breaks_at_end start r₀ r w₀ w w' s (c ∷ line) count part run some wrote front flushed =
      let text : replies_text (exchanges m start (lines_after [] run.y)) ≡ (replies_text run.known ++ part) ++ front.0 =
      ap replies_text (whole start r₀ r w₀ w s (c ∷ line) count run) ∙ replies-one run.known (exchange s (c ∷ line))
      ∙ ap (λ t. replies_text run.known ++ t) front.1 ∙ sym (append_assoc (replies_text run.known) part front.0) in
      record {
        y = run.y;
        out = replies_text run.known ++ part;
        read = run.read;
        uses = used-so-far start r₀ r w₀ w s (c ∷ line) count run;
        goes_on = run.held-on some;
        wrote = Appends-trans w₀.contents w.contents w'.contents (replies_text run.known) part run.wrote wrote;
        front = (front.0, text);
        holds = (part, ap (λ t. replies_text t ++ part) (sym (run.held some)));
        flushed = flushed ∙ run.flushed ∙ ap (λ t. after_flushes w₀.flushes (length t)) (sym (run.held some));
      }

-- a list that is cut at its bound, or has room for one more
pub take_full : (n : ℕ) (xs : List ℕ) (b : ℕ) → length xs ≡ n → take n (xs ++ b ∷ []) ≡ xs
take_full n xs b h = subst (λ k. take k (xs ++ b ∷ []) ≡ xs) h (take-append_seam xs (b ∷ []))

pub take_room : (n : ℕ) (xs : List ℕ) (b : ℕ) → length xs < n → take n (xs ++ b ∷ []) ≡ xs ++ b ∷ []
take_room n xs b h = take_all n (xs ++ b ∷ []) (omega (arith, length-append xs (b ∷ [])))

-- a front that was cut before and after is cut once
pub take-again : (n : ℕ) (xs ys : List ℕ) → take n (take n xs ++ ys) ≡ take n (xs ++ ys)
take-again zero xs ys = refl
take-again (suc n) [] ys = refl
take-again (suc n) (x ∷ xs) ys = ap (λ t. x ∷ t) (take-again n xs ys)

pub is-other : (b : ℕ) → b ≢ line_feed → (b == line_feed) ≡ false
is-other b h = grind (arith, nat_tests)

pub rose-from : (a b c : ℕ) → a ≡ b → Rose a c → Rose b c
rose-from a b c e h = subst (λ n. Rose n c) e h

-- A buffer holds the front of the unfinished line.
module _ {S : Type 0} (m : Machine S) where
  pub record Runs (start : S) (r₀ r : Option (List ℕ)) (w₀ w : Output) (s : S) (items : List ℕ)
      (count : ℕ) : Type 0 where
    pub line : List ℕ
    pub items-is : items ≡ take 8192 line
    pub run : Run m start r₀ r w₀ w s line count

  -- no more was read than there were reads
  pub run-bounds : (start : S) (r₀ r r' : Option (List ℕ)) (w₀ w : Output) (s : S) (items : List ℕ) (count reads : ℕ)
      → Runs start r₀ r w₀ w s items count
      → count ≤ reads → Keeps r r' → ReadsUpTo reads r₀ r'
  run-bounds start r₀ r r' w₀ w s items count reads runs few kept =
      let y = runs.run.y in
      let counted = runs.run.counted in
      (y, omega (arith, counted, few), Consumes-kept r₀ r r' y runs.run.read kept)

  -- and with one read more
  pub run-bounds_after : (start : S) (r₀ r r' : Option (List ℕ)) (w₀ w : Output) (s : S) (items : List ℕ)
      (count reads b : ℕ) → Runs start r₀ r w₀ w s items count
      → count < reads → Consumes r r' (b ∷ []) → ReadsUpTo reads r₀ r'
  run-bounds_after start r₀ r r' w₀ w s items count reads b runs few read =
      let y = runs.run.y in
      let counted = runs.run.counted in (
        y ++ b ∷ [],
        omega (arith, counted, few, length-append y (b ∷ [])),
        Consumes-trans r₀ r r' y (b ∷ []) runs.run.read read,
      )

module _ {S : Type 0} (m : Machine S) (law : ForgetsLong m) where
  reply-facts : (s : S) (items line : List ℕ) → items ≡ take 8192 line → m.reply s items ≡ m.reply s line
  reply-facts s items line e = ap (m.reply s) e ∙ law.reply s line

  last_reply-facts : (s : S) (items line : List ℕ) → items ≡ take 8192 line → last_reply m s items ≡ last_reply m s line
  last_reply-facts s items [] e = ap (last_reply m s) e
  last_reply-facts s items (b ∷ line) e = ap (last_reply m s) e ∙ law.reply s (b ∷ line)

  kept-read : (start : S) (r₀ r r' : Option (List ℕ)) (w₀ w : Output) (s : S) (line : List ℕ) (count : ℕ) → Keeps r r'
      → Run m start r₀ r w₀ w s line count → Run m start r₀ r' w₀ w s line count
  kept-read start r₀ r r' w₀ w s line count kept run = record {
    y = run.y;
    known = run.known;
    read = Consumes-kept r₀ r r' run.y run.read kept;
    wrote = run.wrote;
    flushed = run.flushed;
    served-on = run.served-on;
    finished-on = run.finished-on;
    used-on = run.used-on;
    goes-on = run.goes-on;
    counted = run.counted;
    held = run.held;
    held-on = run.held-on;
  }

  pub run-begins : (start : S) (r : Option (List ℕ)) (w : Output) (items : List ℕ) → items ≡ []
      → Runs m start r r w w start items 0
  run-begins start r w items e = record { line = []; items-is = e; run = begin m start r w }

  pub run-stops : (start : S) (r₀ r : Option (List ℕ)) (w₀ w : Output) (s : S) (items : List ℕ) (count : ℕ)
      → Runs m start r₀ r w₀ w s items count → (y : List ℕ) × (length y ≡ count) × Finishes m start r₀ r w₀ w y
  run-stops start r₀ r w₀ w s items count runs = stops m start r₀ r w₀ w s runs.line count runs.run

  pub run-fails : (start : S) (r₀ r r' : Option (List ℕ)) (w₀ w : Output) (s : S) (items : List ℕ) (count : ℕ)
      → Runs m start r₀ r w₀ w s items count
      → Keeps r r' → (y : List ℕ) × Finishes m start r₀ r' w₀ w y
  run-fails start r₀ r r' w₀ w s items count runs kept =
      let found =
      stops m start r₀ r' w₀ w s runs.line count (kept-read start r₀ r r' w₀ w s runs.line count kept runs.run) in
      (found.0, found.2)

  last-facts : (items line : List ℕ) → items ≡ take 8192 line → length (last_line items) ≡ length (last_line line)
  last-facts items [] e = ap (λ t. length (last_line t)) e
  last-facts items (b ∷ line) e = ap (λ t. length (last_line t)) e

  pub run-ends : (start : S) (r₀ r r' : Option (List ℕ)) (w₀ w w' : Output) (s : S) (items : List ℕ) (count : ℕ)
      (now : Machine S) → now ≡ m → Runs m start r₀ r w₀ w s items count
      → Keeps r r' → IsAtEnd r' → Appends w.contents w'.contents (last_reply now s items)
      → w'.flushes ≡ after_flushes w.flushes (length (last_line items)) → Serves m start r₀ r' w₀ w'
  run-ends start r₀ r r' w₀ w w' s items count now same runs kept at_end wrote flushed =
      ended m start r₀ r' w₀ w w' s runs.line count
      (kept-read start r₀ r r' w₀ w s runs.line count kept runs.run) at_end
      (subst (Appends w.contents w'.contents)
      (ap (λ (k : Machine S). last_reply k s items) same ∙ last_reply-facts s items runs.line runs.items-is) wrote)
      (flushed ∙ ap (after_flushes w.flushes) (last-facts items runs.line runs.items-is))

  some-facts : (items line : List ℕ) → items ≡ take 8192 line → 0 < length items → 0 < length line
  some-facts items [] e some = subst (λ t. 0 < length t) e some
  some-facts items (b ∷ line) e some = omega arith

  pub run-breaks_at_end : (start : S) (r₀ r r' : Option (List ℕ)) (w₀ w w' : Output) (s : S) (items : List ℕ)
      (count : ℕ) (now : Machine S) → now ≡ m → Runs m start r₀ r w₀ w s items count
      → Keeps r r' → 0 < length items → AppendsPrefix w.contents w'.contents (now.reply s items)
      → w'.flushes ≡ w.flushes → Breaks m start r₀ r' w₀ w'
  run-breaks_at_end start r₀ r r' w₀ w w' s items count now same runs kept some wrote flushed =
      breaks_at_end m start r₀ r' w₀ w w' s runs.line count wrote.0
      (kept-read start r₀ r r' w₀ w s runs.line count kept runs.run)
      (some-facts items runs.line runs.items-is some) wrote.2
      (subst (IsFront wrote.0) (ap (λ (k : Machine S). k.reply s items) same
      ∙ reply-facts s items runs.line runs.items-is) (wrote.1, wrote.3))
      flushed

  pub run-goes_on : (start : S) (r₀ r r' : Option (List ℕ)) (w₀ w : Output) (s : S) (items kept : List ℕ) (count b : ℕ)
      → Runs m start r₀ r w₀ w s items count
      → Consumes r r' (b ∷ []) → b ≢ line_feed → kept ≡ take 8192 (items ++ b ∷ [])
      → Runs m start r₀ r' w₀ w s kept (count + 1)
  run-goes_on start r₀ r r' w₀ w s items kept count b runs read other e = record {
    line = runs.line ++ b ∷ [];
    items-is = e ∙ ap (λ t. take 8192 (t ++ b ∷ [])) runs.items-is ∙ take-again 8192 runs.line (b ∷ []);
    run = more m start r₀ r r' w₀ w s runs.line count b (is-other b other) runs.run read;
  }

  pub run-answers : (start : S) (r₀ r r' : Option (List ℕ)) (w₀ w w' : Output) (s s' : S) (items empty : List ℕ)
      (count b : ℕ) (last : Bool) (now : Machine S) → now ≡ m → Runs m start r₀ r w₀ w s items count
      → Consumes r r' (b ∷ []) → b ≡ line_feed → last ≡ now.ends items → last ≡ false
      → Appends w.contents w'.contents (now.reply s items) → w'.flushes ≡ one_more w.flushes → s' ≡ now.next s items
      → empty ≡ []
      → Runs m start r₀ r' w₀ w' s' empty (count + 1)
  run-answers start r₀ r r' w₀ w w' s s' items empty count b last now same runs read feed is_last more wrote flushed
      step e = record {
        line = [];
        items-is = e;
        run = subst (λ k. Run m start r₀ r' w₀ w' k [] (count + 1))
            (sym (step ∙ ap (λ (k : Machine S). k.next s items) same ∙ ap (m.next s) runs.items-is
            ∙ law.next s runs.line))
            (answered m start r₀ r r' w₀ w w' s runs.line count
            (sym (law.ends runs.line) ∙ ap m.ends (sym runs.items-is) ∙ sym (ap (λ (k : Machine S). k.ends items) same)
            ∙ sym is_last ∙ more) runs.run
            (subst (λ k. Consumes r r' (k ∷ [])) feed read)
            (subst (Appends w.contents w'.contents)
            (ap (λ (k : Machine S). k.reply s items) same
            ∙ reply-facts s items runs.line runs.items-is) wrote) flushed);
      }

  pub run-quits : (start : S) (r₀ r r' : Option (List ℕ)) (w₀ w w' : Output) (s : S) (items : List ℕ) (count b : ℕ)
      (last : Bool) (now : Machine S) → now ≡ m → Runs m start r₀ r w₀ w s items count
      → Consumes r r' (b ∷ []) → b ≡ line_feed → last ≡ now.ends items → last ≡ true
      → Appends w.contents w'.contents (now.reply s items) → w'.flushes ≡ one_more w.flushes
      → Serves m start r₀ r' w₀ w'
  run-quits start r₀ r r' w₀ w w' s items count b last now same runs read feed is_last done wrote flushed =
      quits m start r₀ r r' w₀ w w' s runs.line count
      (sym (law.ends runs.line) ∙ ap m.ends (sym runs.items-is) ∙ sym (ap (λ (k : Machine S). k.ends items) same)
      ∙ sym is_last ∙ done) runs.run
      (subst (λ k. Consumes r r' (k ∷ [])) feed read)
      (subst (Appends w.contents w'.contents)
      (ap (λ (k : Machine S). k.reply s items) same ∙ reply-facts s items runs.line runs.items-is) wrote) flushed

  pub run-breaks : (start : S) (r₀ r r' : Option (List ℕ)) (w₀ w w' : Output) (s : S) (items : List ℕ) (count b : ℕ)
      (now : Machine S) → now ≡ m → Runs m start r₀ r w₀ w s items count
      → Consumes r r' (b ∷ []) → b ≡ line_feed → AppendsPrefix w.contents w'.contents (now.reply s items)
      → w'.flushes ≡ w.flushes → Breaks m start r₀ r' w₀ w'
  run-breaks start r₀ r r' w₀ w w' s items count b now same runs read feed wrote flushed =
      breaks m start r₀ r r' w₀ w w' s runs.line count wrote.0 runs.run
      (subst (λ k. Consumes r r' (k ∷ [])) feed read) wrote.2
      (subst (IsFront wrote.0) (ap (λ (k : Machine S). k.reply s items) same
      ∙ reply-facts s items runs.line runs.items-is) (wrote.1, wrote.3)) flushed
