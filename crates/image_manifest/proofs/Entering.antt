-- Names are below the names on the way to them.
use Rattle.std.proofs.Common.{◌≡◌, ℕ, suc, ◌+◌, ◌-◌, ◌<◌, ◌≤◌, Bool, true, false, cond, get_or, take, drop, take_all}
use Rattle.std.proofs.Common.{drop-cons, drop_of_length-le, List, [], ◌∷◌, ◌++◌, length, map, Option, Some, None, refl}
use Rattle.std.proofs.Common.{sym, ap, ap₂, subst, ◌∙◌, append_assoc, append-nil, length-append, arith}
use Rattle.std.specs.Prelude.{◌==◌}
use Rattle.std.proofs.lemmas.List.{map-append}
use Rattle.std.proofs.lemmas.Bool.Decides.{nat_tests}
use Rattle.rom_tree.specs.Tree.{Node, node, directory, regular, symlink, block, character, socket, fifo, Entries}
use Rattle.rom_tree.specs.Tree.{no_entries, entry}
use Rattle.rom_tree.specs.Names.{Name, names, node_names, entries_names, path_below}
use Rattle.image_manifest.specs.Composed.{path_by, way_at, way_with, ways_behind, ways_of}
use Rattle.image_manifest.specs.Open.{AreOpen, AreShorter, AreToCome, HasWay, StandBelow, StandsBelow, opened}
use Rattle.image_manifest.specs.Open.{parent_in, place_of_length}
use Rattle.image_manifest.specs.declared.naming.Member.{Member}
use Rattle.image_manifest.specs.declared.naming.Open.{Open}
use Rattle.image_manifest.proofs.Upwards.{below_length, path_of_below, way_append, way_last}

-- The names of a tree are below the ways to them.

shorter_more : (k l : ℕ) (ws : List (List ℕ)) → k ≤ l → AreShorter k ws → AreShorter l ws
unfolding AreShorter
shorter_more k l [] h s = tt
shorter_more k l (w ∷ ws) h s = (omega (arith, h, s.0), shorter_more k l ws h s.1)

shorter_push : (k : ℕ) (ws : List (List ℕ)) (w : List ℕ) → AreShorter k ws → length w < k → AreShorter k (ws ++ w ∷ [])
unfolding AreShorter
shorter_push k [] w s h = (h, tt)
shorter_push k (v ∷ ws) w s h = (s.0, shorter_push k ws w s.1 h)

-- a way more
shorter_below : (up : List (List ℕ)) (w name : List ℕ) → AreShorter (length w) up
    → AreShorter (length (path_below w name)) (up ++ w ∷ [])
shorter_below up w name s =
    let l = below_length (path_below w name) w name refl in
    shorter_push (length (path_below w name)) up w
    (shorter_more (length w) (length (path_below w name)) up (omega (arith, l)) s) (omega (arith, l))

mutual
  unfolding node_names StandBelow

  stand_node : (up : List (List ℕ)) (w : List ℕ) (closed : List (List ℕ)) (x : Node) (rest : List Name)
      → AreShorter (length w) up
      → ((c : List (List ℕ)) → StandBelow (up ++ w ∷ c) rest) → StandBelow (up ++ w ∷ closed) (node_names w x ++ rest)
  stand_node up w closed (node a (directory es)) rest s k = stand_entries up w closed es rest s k
  stand_node up w closed (node a (regular ps)) rest s k = k closed
  stand_node up w closed (node a (symlink ps)) rest s k = k closed
  stand_node up w closed (node a block) rest s k = k closed
  stand_node up w closed (node a character) rest s k = k closed
  stand_node up w closed (node a socket) rest s k = k closed
  stand_node up w closed (node a fifo) rest s k = k closed

  stand_entries : (up : List (List ℕ)) (w : List ℕ) (closed : List (List ℕ)) (es : Entries) (rest : List Name)
      → AreShorter (length w) up
      → ((c : List (List ℕ)) → StandBelow (up ++ w ∷ c) rest)
      → StandBelow (up ++ w ∷ closed) (entries_names w es ++ rest)
  stand_entries up w closed no_entries rest s k = k closed
  stand_entries up w closed (entry name x es) rest s k =
      let p : List ℕ = path_below w name in
      let after : List Name = entries_names w es ++ rest in
      let P : List Name → Type 0 = λ ns. StandBelow (up ++ w ∷ p ∷ []) ns in
      let Q : List (List ℕ) → Type 0 = λ v. StandBelow v (node_names p x ++ after) in
      let R : List (List ℕ) → Type 0 = λ v. StandBelow v after in
      record {
        up = up;
        way = w;
        closed = closed;
        is = refl;
        shorter = s;
        path = refl;
        after = subst P (sym (append_assoc (node_names p x) (entries_names w es) rest))
            (subst Q (append_assoc up (w ∷ []) (p ∷ []))
            (stand_node (up ++ w ∷ []) p [] x after (shorter_below up w name s)
            (λ c. subst R (sym (append_assoc up (w ∷ []) (p ∷ c))) (stand_entries up w (p ∷ c) es rest s k))));
      }

pub names_stand : (t : Node) → AreToCome [] (names t)
unfolding names StandBelow AreShorter
names_stand t =
    let P : List Name → Type 0 = λ ns. StandBelow ([] ∷ []) ns in
    (refl, subst P (append-nil (node_names [] t)) (stand_node [] [] [] t [] tt (λ c. tt)))

-- The directory of a name is the one whose way is as long as its path without its name.

is_len : (o : Open) (k l : ℕ) → o.len ≡ l → k ≡ l → (o.len == k) ≡ true
is_len o k l e h = grind (arith, nat_tests, e, h)

no_len : (o : Open) (k l : ℕ) → o.len < l → k ≡ l → (o.len == k) ≡ false
no_len o k l e h = grind (arith, nat_tests, e, h)

record IsParent (all : List (List ℕ)) (o : Option ℕ) (w : List ℕ) : Type 0 where
  index : ℕ
  is : o ≡ Some index
  way : way_at all index ≡ w

parent_found : (all : List (List ℕ)) (os : List Open) (up : List (List ℕ)) (w : List ℕ) (closed : List (List ℕ)) (k : ℕ)
    → AreOpen all os (up ++ w ∷ closed) → AreShorter (length w) up → k ≡ length w
    → IsParent all (parent_in k os) w
unfolding AreOpen AreShorter
parent_found all [] [] w closed k h s e = absurd h
parent_found all [] (u ∷ up) w closed k h s e = absurd h
parent_found all (o ∷ os) [] w closed k h s e =
    let t : (o.len == k) ≡ true = is_len o k (length w) h.0.len e in
    record { index = o.index; is = rw t refl; way = h.0.way }
parent_found all (o ∷ os) (u ∷ up) w closed k h s e =
    let f : (o.len == k) ≡ false = no_len o k (length w) (omega (arith, h.0.len, s.0)) e in
    let r = parent_found all os up w closed k h.1 s.1 e in
    record { index = r.index; is = rw f r.is; way = r.way }

way_kept : (all : List (List ℕ)) (v : List ℕ) (o : Open) (w : List ℕ) → HasWay all o w → HasWay (all ++ v ∷ []) o w
way_kept all v o w h = record {
  way = way_append all (v ∷ []) o.index h.within ∙ h.way;
  within = omega (arith, h.within, length-append all (v ∷ []));
  len = h.len;
}

still_open : (all : List (List ℕ)) (v : List ℕ) (os : List Open) (up : List (List ℕ)) (w : List ℕ)
    (closed : List (List ℕ)) (k : ℕ) (new : Open) (p : List ℕ)
    → AreOpen all os (up ++ w ∷ closed) → AreShorter (length w) up → k ≡ length w → HasWay (all ++ v ∷ []) new p
    → AreOpen (all ++ v ∷ []) (opened k new os) (up ++ w ∷ p ∷ [])
unfolding AreOpen AreShorter
still_open all v [] [] w closed k new p h s e n = absurd h
still_open all v [] (u ∷ up) w closed k new p h s e n = absurd h
still_open all v (o ∷ os) [] w closed k new p h s e n =
    let t : (o.len == k) ≡ true = is_len o k (length w) h.0.len e in
    rw t (way_kept all v o w h.0, (n, tt))
still_open all v (o ∷ os) (u ∷ up) w closed k new p h s e n =
    let f : (o.len == k) ≡ false = no_len o k (length w) (omega (arith, h.0.len, s.0)) e in
    rw f (way_kept all v o u h.0, still_open all v os up w closed k new p h.1 s.1 e n)

to_come_of : (up : List (List ℕ)) (w : List ℕ) (r : List (List ℕ)) (ns : List Name) → StandBelow (up ++ w ∷ r) ns
    → AreToCome (up ++ w ∷ r) ns
to_come_of [] w r ns h = h
to_come_of (u ∷ up) w r ns h = h

-- what holds once a name was entered whose parent is `o`
pub record IsEntered (all : List (List ℕ)) (os : List Open) (o : Option ℕ) (name : List ℕ) (n : Name)
    (ns : List Name) : Type 0 where
  pub ways : List (List ℕ)
  pub are : AreOpen (all ++ way_with all o name ∷ []) os ways
  pub below : AreToCome ways ns
  pub path : path_by (way_with all o name) ≡ n.path

fresh : (all : List (List ℕ)) (v p : List ℕ) (new : Open) → new.index ≡ length all → new.len ≡ length p → v ≡ p
    → HasWay (all ++ v ∷ []) new p
fresh all v p new i l e = record {
  way = way_last all v new.index i ∙ e;
  within = omega (arith, i, length-append all (v ∷ []));
  len = l;
}

entered_below : (all : List (List ℕ)) (os : List Open) (ws : List (List ℕ)) (n : Name) (ns : List Name) (k : ℕ)
    (new : Open) (name : List ℕ) → AreOpen all os ws
    → StandsBelow ws n (λ v. StandBelow v ns) → name ≡ n.last → k ≡ length n.path - length name - 1
    → new.index ≡ length all → new.len ≡ length n.path
    → IsEntered all (opened k new os) (parent_in k os) name n ns
entered_below all os ws n ns k new name h s is e i l =
    let P : List (List ℕ) → Type 0 = λ v. AreOpen all os v in
    let there = subst P s.is h in
    let q : k ≡ length s.way = omega (arith, e, below_length n.path s.way n.last s.path, ap length is) in
    let r = parent_found all os s.up s.way s.closed k there s.shorter q in
    let v : way_with all (parent_in k os) name ≡ n.path =
    ap₂ (way_with all) r.is is ∙ ap (λ (x : List ℕ). path_below x n.last) r.way ∙ sym s.path in
    record {
      ways = s.up ++ s.way ∷ n.path ∷ [];
      are = still_open all (way_with all (parent_in k os) name) os s.up s.way s.closed k new n.path there s.shorter q
          (fresh all _ n.path new i l v);
      below = to_come_of s.up s.way (n.path ∷ []) ns s.after;
      path = ap path_by (v ∙ s.path) ∙ path_of_below s.way n.last ∙ sym s.path;
    }

pub entered : (all : List (List ℕ)) (os : List Open) (ws : List (List ℕ)) (n : Name) (ns : List Name) (k : ℕ)
    (new : Open) (name : List ℕ) → AreOpen all os ws → AreToCome ws (n ∷ ns)
    → name ≡ n.last → k ≡ length n.path - length name - 1 → new.index ≡ length all → (length os ≡ 0 → new.len ≡ 0)
    → (0 < length os → new.len ≡ length n.path)
    → IsEntered all (opened k new os) (parent_in k os) name n ns
unfolding AreOpen StandBelow
entered all [] [] n ns k new name h s is e i l m = record {
  ways = [] ∷ [];
  are = (fresh all [] [] new i (l refl) refl, tt);
  below = s.1;
  path = sym s.0;
}
entered all [] (w ∷ ws) n ns k new name h s is e i l m = absurd h
entered all (o ∷ os) [] n ns k new name h s is e i l m = absurd h
entered all (o ∷ os) (w ∷ ws) n ns k new name h s is e i l m =
    entered_below all (o ∷ os) (w ∷ ws) n ns k new name h s is e i (m (omega arith))

-- One member more.

ways_more : (ws : List (List ℕ)) (ms : List Member) (x : Member)
    → ways_behind ws (ms ++ x ∷ []) ≡ ways_behind ws ms ++ way_with (ways_behind ws ms) x.parent x.name.now ∷ []
ways_more ws [] x = refl
ways_more ws (y ∷ ms) x = ways_more (ws ++ way_with ws y.parent y.name.now ∷ []) ms x

pub ways_pushed : (old new : List Member) (x : Member) → new ≡ old ++ x ∷ []
    → ways_of new ≡ ways_of old ++ way_with (ways_of old) x.parent x.name.now ∷ []
unfolding ways_of
ways_pushed old new x e = ap (ways_behind []) e ∙ ways_more [] old x

pub paths_pushed : (all new : List (List ℕ)) (w : List ℕ) (done : List Name) (n : Name) → new ≡ all ++ w ∷ []
    → map path_by all ≡ map (λ v. v.path) done → path_by w ≡ n.path
    → map path_by new ≡ map (λ v. v.path) (done ++ n ∷ [])
paths_pushed all new w done n e h k =
    ap (map path_by) e ∙ map-append path_by all (w ∷ []) ∙ ap₂ (λ (a : List (List ℕ)) (b : List ℕ). a ++ b ∷ []) h k
    ∙ sym (map-append (λ (v : Name). v.path) done (n ∷ []))

length-ways : (ws : List (List ℕ)) (ms : List Member) → length (ways_behind ws ms) ≡ length ws + length ms
length-ways ws [] = omega arith
length-ways ws (x ∷ xs) = let w : List (List ℕ) =
    way_with ws x.parent x.name.now ∷ [] in omega (arith, length-ways (ws ++ w) xs, length-append ws w)

pub many_ways : (ms : List Member) → length (ways_of ms) ≡ length ms
unfolding ways_of
many_ways ms = omega (arith, length-ways [] ms)

-- The index of a name's directory.

pub place_here : (os : List Open) (i k : ℕ) (d : Open) → i < length os → ((get_or os i d).len == k) ≡ true
    → place_of_length k (drop i os) ≡ 0
place_here os i k d h e = rw (drop-cons os i d h, e) refl

pub place_next : (os : List Open) (i k : ℕ) (d : Open) → i < length os → ((get_or os i d).len == k) ≡ false
    → place_of_length k (drop i os) ≡ suc (place_of_length k (drop (suc i) os))
place_next os i k d h e = rw (drop-cons os i d h, e) refl

pub place_end : (os : List Open) (i k : ℕ) → length os ≤ i → place_of_length k (drop i os) ≡ 0
place_end os i k h = rw (drop_of_length-le os h) refl

parent_by : (t : Bool) (k : ℕ) (o : Open) (os : List Open) (d : Open)
    → (place_of_length k os < length os → parent_in k os ≡ Some (get_or os (place_of_length k os) d).index)
    → cond t 0 (suc (place_of_length k os)) < suc (length os)
    → cond t (Some o.index) (parent_in k os)
    ≡ Some (get_or (o ∷ os) (cond t 0 (suc (place_of_length k os))) d).index
parent_by true k o os d r h = refl
parent_by false k o os d r h = r (omega (arith, h))

pub parent_at : (k : ℕ) (os : List Open) (d : Open) → place_of_length k os < length os
    → parent_in k os ≡ Some (get_or os (place_of_length k os) d).index
parent_at k [] d h = absurd (omega (arith, h))
parent_at k (o ∷ os) d h = parent_by (o.len == k) k o os d (parent_at k os d) h

none_by : (t : Bool) (k : ℕ) (o : Open) (os : List Open) → (length os ≤ place_of_length k os → parent_in k os ≡ None)
    → suc (length os) ≤ cond t 0 (suc (place_of_length k os)) → cond t (Some o.index) (parent_in k os) ≡ None
none_by true k o os r h = absurd (omega (arith, h))
none_by false k o os r h = r (omega (arith, h))

pub parent_none : (k : ℕ) (os : List Open) → length os ≤ place_of_length k os → parent_in k os ≡ None
parent_none k [] h = refl
parent_none k (o ∷ os) h = none_by (o.len == k) k o os (parent_none k os) h

front_by : (t : Bool) (k : ℕ) (new o : Open) (os : List Open)
    → opened k new os ≡ take (suc (place_of_length k os)) os ++ new ∷ []
    → o ∷ cond t (new ∷ []) (opened k new os) ≡ take (suc (cond t 0 (suc (place_of_length k os)))) (o ∷ os) ++ new ∷ []
front_by true k new o os r = refl
front_by false k new o os r = ap (λ (v : List Open). o ∷ v) r

-- those that stay open, and the new one
pub opened_as : (k : ℕ) (new : Open) (os : List Open)
    → opened k new os ≡ take (suc (place_of_length k os)) os ++ new ∷ []
opened_as k new [] = refl
opened_as k new (o ∷ os) = front_by (o.len == k) k new o os (opened_as k new os)

pub opened_all : (k : ℕ) (new : Open) (os : List Open) → length os ≤ place_of_length k os
    → opened k new os ≡ os ++ new ∷ []
opened_all k new os h = opened_as k new os
    ∙ ap (λ (v : List Open). v ++ new ∷ []) (take_all (suc (place_of_length k os)) os (omega (arith, h)))
