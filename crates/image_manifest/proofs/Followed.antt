-- The line that a name's path leads to.
use Rattle.std.proofs.Common.{◌≡◌, ℕ, ◌+◌, Bool, true, false, ◌||◌, cond, List, [], ◌∷◌, ◌++◌, length, map, reverse}
use Rattle.std.proofs.Common.{Option, None, Some, refl, sym, ap, subst, ◌∙◌, append_assoc, append-nil, arith}
use Rattle.std.proofs.lemmas.List.{reverse-append}
use Rattle.std.proofs.lemmas.Bool.{eqb-true}
use Rattle.std.specs.Prelude.{◌==◌}
use Rattle.std.specs.Cmp.Lexicographic.{bytes_decides}
use Rattle.std.specs.Option.{is_some}
use Rattle.std.specs.Str.{bytes_eq}
use Rattle.manifest.specs.declared.line.Line.{Line}
use Rattle.manifest.specs.Grammar.{fault_of}
use Rattle.manifest.specs.Lines.{is_hard, is_same, is_file, line_at, led, filed}
use Rattle.manifest.proofs.Checked.{sound_place}
use Rattle.manifest.specs.Printed.{AreTaken, numbered, numbered_from}
use Rattle.rom_tree.specs.declared.types.Kind.{Kind}
use Rattle.rom_tree.specs.declared.types.Kind.TheVariants.{Directory, Regular, Symlink, Block, Character, Socket, Fifo}
use Rattle.rom_tree.specs.Image.{Image}
use Rattle.rom_tree.specs.Names.{Name, names}
use Rattle.rom_tree.specs.Tree.{Node, IsIn, here, there, ino_of, is_directory, kind_of, nodes}
use Rattle.image_manifest.specs.Lines.{first_name, hard_line, line_behind, line_by, lines_behind, node_line, word_of}
use Rattle.image_manifest.proofs.Lined.{length-lines, names_nodes}
use Rattle.image_manifest.proofs.Ways.{true_is_not_false, Among, first, later}
use Rattle.image_manifest.specs.declared.rules.FileRules.{FileRules}

-- The node of a name is one of the tree's.

among_nodes : (n : Name) (ns : List Name) → Among n ns → IsIn n.node (map (λ (k : Name). k.node) ns)
among_nodes n [] h = elim h [ ]
among_nodes n (k ∷ ns) first = here
among_nodes n (k ∷ ns) (later h) = there (among_nodes n ns h)

pub in_tree : (t : Node) (n : Name) → Among n (names t) → IsIn n.node (nodes t)
in_tree t n h = subst (λ (v : List Node). IsIn n.node v) (names_nodes t) (among_nodes n (names t) h)

-- the lines in reverse order, after these were accepted as well
abbrev pub taken_after : List Line → ℕ → List Line → List Line
taken_after latest n [] = latest
taken_after latest n (l ∷ ls) = taken_after (numbered n l ∷ latest) (n + 1) ls

pub after_reversed : (latest : List Line) (n : ℕ) (ls : List Line)
    → taken_after latest n ls ≡ reverse (numbered_from n ls) ++ latest
after_reversed latest n [] = refl
after_reversed latest n (l ∷ ls) =
    after_reversed (numbered n l ∷ latest) (n + 1) ls
    ∙ sym (append_assoc (reverse (numbered_from (n + 1) ls)) (numbered n l ∷ []) latest)
    ∙ ap (λ (x : List Line). x ++ latest) (sym (reverse-append (numbered n l ∷ []) (numbered_from (n + 1) ls)))

pub taken_front : (latest : List Line) (n : ℕ) (xs ys : List Line) → AreTaken latest n (xs ++ ys) → AreTaken latest n xs
taken_front latest n [] ys h = tt
taken_front latest n (x ∷ xs) ys h = (h.0, h.1, taken_front (numbered n x ∷ latest) (n + 1) xs ys h.2)

same_path : (p : List ℕ) → bytes_eq p p ≡ true
same_path p = (bytes_decides p p).1 refl

-- a line that is accepted has another path than those before it
pub other_path : (latest : List Line) (n : ℕ) (l : Line) (p : List ℕ) → fault_of latest (numbered n l) ≡ None
    → is_some (line_at latest p) ≡ true → bytes_eq l.path p ≡ false
other_path latest n l p f h = by (bytes_eq l.path p) refl
  where
    by : (b : Bool) → bytes_eq l.path p ≡ b → b ≡ false
    by true e =
        absurd (true_is_not_false (is_some (line_at latest p)) h
        (ap (λ (v : List ℕ). is_some (line_at latest v)) (sym ((bytes_decides l.path p).0 e))
        ∙ (sound_place latest (numbered n l) f).1))
    by false e = refl

-- what a path leads to stays, whatever lines are accepted behind
kept : (latest : List Line) (n : ℕ) (ls : List Line) (p : List ℕ) → AreTaken latest n ls
    → is_some (line_at latest p) ≡ true
    → (led (taken_after latest n ls) p ≡ led latest p) × (filed (taken_after latest n ls) p ≡ filed latest p)
kept latest n [] p t h = (refl, refl)
kept latest n (l ∷ ls) p t h =
    let e : bytes_eq l.path p ≡ false = other_path latest n l p t.1 h in
    let k = kept (numbered n l ∷ latest) (n + 1) ls p t.2 (rw e h) in
    (k.0 ∙ rw e refl, k.1 ∙ rw e refl)

-- what the path of a line leads to, and whose contents it has
abbrev pub led_by : List Line → Line → ℕ → Option Line
led_by before l k = cond (is_hard l.word) (led before l.text) (Some (numbered k l))

abbrev pub filed_by : List Line → Line → ℕ → Option Line
filed_by before l k =
    cond (is_hard l.word || is_same l.word) (filed before l.text) (cond (is_file l.word) (Some (numbered k l)) None)

line_led : (latest : List Line) (n : ℕ) (xs : List Line) (l : Line) (ys : List Line) (k : ℕ) → k ≡ n + length xs
    → AreTaken latest n (xs ++ l ∷ ys)
    → (led (taken_after latest n (xs ++ l ∷ ys)) l.path ≡ led_by (taken_after latest n xs) l k)
    × (filed (taken_after latest n (xs ++ l ∷ ys)) l.path ≡ filed_by (taken_after latest n xs) l k)
line_led latest n [] l ys k e t =
    let s = same_path l.path in
    let f : n ≡ k = omega (arith, e) in
    let h = kept (numbered n l ∷ latest) (n + 1) ys l.path t.2 (rw s refl) in
    (h.0 ∙ rw s (ap (led_by latest l) f), h.1 ∙ rw s (ap (filed_by latest l) f))
line_led latest n (x ∷ xs) l ys k e t = line_led (numbered n x ∷ latest) (n + 1) xs l ys k (omega (arith, e)) t.2

-- The lines of an image's names.

pub lines_apart : (m : Image) (rules : FileRules) (pre b : List Name) (n : Name) (a : List Name)
    → lines_behind m rules pre (b ++ n ∷ a)
    ≡ lines_behind m rules pre b ++ line_behind m rules (pre ++ b) n
    ∷ lines_behind m rules ((pre ++ b) ++ n ∷ []) a
lines_apart m rules pre [] n a =
    ap (λ (v : List Name). line_behind m rules v n ∷ lines_behind m rules (v ++ n ∷ []) a) (sym (append-nil pre))
lines_apart m rules pre (x ∷ b) n a =
    ap (λ (v : List Line). line_behind m rules pre x ∷ v)
    (lines_apart m rules (pre ++ x ∷ []) b n a
    ∙ ap (λ (v : List Name). lines_behind m rules (pre ++ x ∷ []) b ++ line_behind m rules v n
    ∷ lines_behind m rules (v ++ n ∷ []) a) (append_assoc pre (x ∷ []) b))

-- all lines, from the last to the first
abbrev pub all_taken : Image → FileRules → ℕ → List Name → List Line
all_taken m rules j ns = taken_after [] j (lines_behind m rules [] ns)

name_led : (m : Image) (rules : FileRules) (j : ℕ) (b : List Name) (n : Name) (a : List Name)
    → AreTaken [] j (lines_behind m rules [] (b ++ n ∷ a))
    → (led (all_taken m rules j (b ++ n ∷ a)) (line_behind m rules b n).path
    ≡ led_by (all_taken m rules j b) (line_behind m rules b n) (j + length b))
    × (filed (all_taken m rules j (b ++ n ∷ a)) (line_behind m rules b n).path
    ≡ filed_by (all_taken m rules j b) (line_behind m rules b n) (j + length b))
name_led m rules j b n a t =
    let xs : List Line = lines_behind m rules [] b in
    let l : Line = line_behind m rules b n in
    let ys : List Line = lines_behind m rules (b ++ n ∷ []) a in
    let e = lines_apart m rules [] b n a in
    let h = line_led [] j xs l ys (j + length b) (omega (arith, length-lines m rules [] b))
    (subst (λ (v : List Line). AreTaken [] j v) e t) in (
      ap (λ (v : List Line). led (taken_after [] j v) l.path) e ∙ h.0,
      ap (λ (v : List Line). filed (taken_after [] j v) l.path) e ∙ h.1,
    )

-- the name, before a name, whose line its own leads to
abbrev pub other : List Name → Name → Option Name
other before n = cond (is_directory n.node) None (first_name (ino_of n.node) before)

not_hard : (k : Kind) → is_hard (word_of k) ≡ false
not_hard Directory = refl
not_hard Regular = refl
not_hard Symlink = refl
not_hard Block = refl
not_hard Character = refl
not_hard Socket = refl
not_hard Fifo = refl

not_same : (k : Kind) → is_same (word_of k) ≡ false
not_same Directory = refl
not_same Regular = refl
not_same Symlink = refl
not_same Block = refl
not_same Character = refl
not_same Socket = refl
not_same Fifo = refl

-- a name that has a line of its own leads to it
pub own_led : (m : Image) (rules : FileRules) (j : ℕ) (b : List Name) (o : Name) (a : List Name)
    → AreTaken [] j (lines_behind m rules [] (b ++ o ∷ a)) → other b o ≡ None
    → led (all_taken m rules j (b ++ o ∷ a)) o.path ≡ Some (numbered (j + length b) (node_line m rules o.path o.node))
own_led m rules j b o a t h =
    let l : Line = node_line m rules o.path o.node in
    let e : line_behind m rules b o ≡ l = ap (line_by m rules o) h in
    let f = subst (λ (v : Line). led (all_taken m rules j (b ++ o ∷ a)) v.path
    ≡ led_by (all_taken m rules j b) v (j + length b)) e (name_led m rules j b o a t).0 in
    f ∙ ap (λ (x : Bool). cond x (led (all_taken m rules j b) l.text) (Some (numbered (j + length b) l)))
    (not_hard (kind_of o.node))

-- and, if it is a regular file's, it has the contents of it
pub own_filed : (m : Image) (rules : FileRules) (j : ℕ) (b : List Name) (o : Name) (a : List Name)
    → AreTaken [] j (lines_behind m rules [] (b ++ o ∷ a)) → other b o ≡ None → kind_of o.node ≡ Regular
    → filed (all_taken m rules j (b ++ o ∷ a)) o.path
    ≡ Some (numbered (j + length b) (node_line m rules o.path o.node))
own_filed m rules j b o a t h k =
    let l : Line = node_line m rules o.path o.node in
    let e : line_behind m rules b o ≡ l = ap (line_by m rules o) h in
    let f = subst (λ (v : Line). filed (all_taken m rules j (b ++ o ∷ a)) v.path
    ≡ filed_by (all_taken m rules j b) v (j + length b)) e (name_led m rules j b o a t).1 in
    f ∙ ap (λ (x : Kind). cond (is_hard (word_of x) || is_same (word_of x)) (filed (all_taken m rules j b) l.text)
    (cond (is_file (word_of x)) (Some (numbered (j + length b) l)) None)) k

-- the first name of a node
pub record IsFirst (wanted : ℕ) (ns : List Name) (n : Name) : Type 0 where
  pub before : List Name
  pub after : List Name
  pub parts : ns ≡ before ++ n ∷ after
  pub number : ino_of n.node ≡ wanted
  pub none : first_name wanted before ≡ None

pub first_is : (number : ℕ) (ns : List Name) (n : Name) → first_name number ns ≡ Some n → IsFirst number ns n
first_is number [] n h = absurd (cc)
first_is number (x ∷ ns) n h =
    elim (ino_of x.node == number) as (λ t. (ino_of x.node == number) ≡ t
    → cond t (Some x) (first_name number ns) ≡ Some n → IsFirst number (x ∷ ns) n) [
      | true ↦ λ e g. let s : x ≡ n = cc in record {
        before = [];
        after = ns;
        parts = ap (λ (v : Name). v ∷ ns) s;
        number = ap (λ (v : Name). ino_of v.node) (sym s) ∙ eqb-true (ino_of x.node) number e;
        none = refl;
      }
      | false ↦ λ e g. let r = first_is number ns n g in record {
        before = x ∷ r.before;
        after = r.after;
        parts = ap (λ (v : List Name). x ∷ v) r.parts;
        number = r.number;
        none = ap (λ (b : Bool). cond b (Some x) (first_name number r.before)) e ∙ r.none;
      }
    ] refl h

pub none_by : (d : Bool) (o : Option Name) → o ≡ None → cond d None o ≡ None
none_by true o h = refl
none_by false o h = h

-- The name whose line a name's path leads to.
pub record IsLed (m : Image) (rules : FileRules) (j : ℕ) (ns : List Name) (n : Name) : Type 0 where
  pub before : List Name
  pub origin : Name
  pub after : List Name
  pub parts : ns ≡ before ++ origin ∷ after
  pub own : other before origin ≡ None
  pub number : ino_of origin.node ≡ ino_of n.node
  pub line : led (all_taken m rules j ns) n.path
      ≡ Some (numbered (j + length before) (node_line m rules origin.path origin.node))

led_from : (m : Image) (rules : FileRules) (j : ℕ) (b : List Name) (n : Name) (a : List Name)
    → AreTaken [] j (lines_behind m rules [] (b ++ n ∷ a)) → IsLed m rules j (b ++ n ∷ a) n
led_from m rules j b n a t = by (is_directory n.node) (first_name (ino_of n.node) b) refl refl
  where
    own : other b n ≡ None → IsLed m rules j (b ++ n ∷ a) n
    own h = record {
      before = b;
      origin = n;
      after = a;
      parts = refl;
      own = h;
      number = refl;
      line = own_led m rules j b n a t h;
    }

    further : (old : Name) → other b n ≡ Some old → first_name (ino_of n.node) b ≡ Some old
        → IsLed m rules j (b ++ n ∷ a) n
    further old h f =
        let r = first_is (ino_of n.node) b old f in
        let alone : other r.before old ≡ None =
        none_by (is_directory old.node) (first_name (ino_of old.node) r.before)
        (ap (λ (v : ℕ). first_name v r.before) r.number ∙ r.none) in
        let l : Line = hard_line n.path old.path in
        let e : line_behind m rules b n ≡ l = ap (line_by m rules n) h in
        let g = subst (λ (v : Line). led (all_taken m rules j (b ++ n ∷ a)) v.path
        ≡ led_by (all_taken m rules j b) v (j + length b)) e (name_led m rules j b n a t).0 in
        let front = taken_front [] j (lines_behind m rules [] b)
        (line_behind m rules b n ∷ lines_behind m rules (b ++ n ∷ []) a)
        (subst (λ (v : List Line). AreTaken [] j v) (lines_apart m rules [] b n a) t) in
        let k = own_led m rules j r.before old r.after
        (subst (λ (v : List Name). AreTaken [] j (lines_behind m rules [] v)) r.parts front) alone in
        record {
          before = r.before;
          origin = old;
          after = r.after ++ n ∷ a;
          parts = ap (λ (v : List Name). v ++ n ∷ a) r.parts ∙ append_assoc r.before (old ∷ r.after) (n ∷ a);
          own = alone;
          number = r.number;
          line = g ∙ ap (λ (v : List Name). led (all_taken m rules j v) old.path) r.parts ∙ k;
        }

    by : (d : Bool) (o : Option Name) → is_directory n.node ≡ d → first_name (ino_of n.node) b ≡ o
        → IsLed m rules j (b ++ n ∷ a) n
    by true o e f = own (ap (λ (x : Bool). cond x None (first_name (ino_of n.node) b)) e)
    by false None e f = own (ap (λ (x : Bool). cond x None (first_name (ino_of n.node) b)) e ∙ f)
    by false (Some old) e f = further old (ap (λ (x : Bool). cond x None (first_name (ino_of n.node) b)) e ∙ f) f

-- a name among others, with what is before and behind it
parted : (n : Name) (ns : List Name) → Among n ns → (b : List Name) × (a : List Name) × (ns ≡ b ++ n ∷ a)
parted n [] h = elim h [ ]
parted n (x ∷ ns) first = ([], ns, refl)
parted n (x ∷ ns) (later h) = let r = parted n ns h in (x ∷ r.0, r.1, ap (λ (v : List Name). x ∷ v) r.2)

pub is_led : (m : Image) (rules : FileRules) (j : ℕ) (ns : List Name) (n : Name)
    → AreTaken [] j (lines_behind m rules [] ns) → Among n ns → IsLed m rules j ns n
is_led m rules j ns n t h =
    let r = parted n ns h in
    subst (λ (v : List Name). IsLed m rules j v n) (sym r.2)
    (led_from m rules j r.0 n r.1 (subst (λ (v : List Name). AreTaken [] j (lines_behind m rules [] v)) r.2 t))
