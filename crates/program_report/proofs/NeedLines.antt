-- The lines of what is missing.
use Rattle.std.proofs.Common.{◌≡◌, ◌+◌, ◌-◌, ◌<◌, ◌≤◌, ℕ, true, not, List, [], ◌∷◌, ◌++◌, length}
use Rattle.std.proofs.Common.{refl, sym, ap, ◌∙◌, arith, Option, Some, None, take, ◌||◌, append_assoc, append-nil}
use Rattle.std.proofs.Common.{subst}
use Rattle.std.specs.Prelude.{slice_index_or}
use Rattle.std.proofs.lemmas.Bool.{le-ltb, lt-ltb}
use Rattle.std.proofs.lemmas.Grind.{flat_map-append}
use Rattle.std.proofs.lemmas.List.{length-map, take_more}
use Rattle.rom_fields.specs.Texts.{escaped}
use Rattle.rom_tree.specs.Image.{Image, image_node, stat_of}
use Rattle.rom_tree.specs.Names.{Name}
use Rattle.rom_tree.specs.Tree.{Node, places_of}
use Rattle.rom_tree.specs.Walks.{IsGiven, given_path, to_come}
use Rattle.rom_tree.specs.declared.frame.Walk.{Walk}
use Rattle.rom_tree.specs.declared.types.Stat.{Stat}
use Rattle.path_walk.specs.Components.{is_empty}
use Rattle.program_report.specs.Effort.{Allowance, effort}
use Rattle.program_report.specs.FileNeeded.{FileNeeded, entry_count}
use Rattle.program_report.specs.Needs.{has_library, missing, need_line, need_lines, needs_from, needs_in, node_effort}
use Rattle.program_report.specs.Needs.{unless, unread_line}

-- there is an index for the interpreter and for each entry
pub many_missing : (m : Image) (n : FileNeeded) → length (missing m n) ≡ 1 + entry_count n
unfolding missing
many_missing m n =
    let e = length-map n.libraries.needed (unless (has_library m n.libraries.run_path)) in
    omega (arith, e)

-- one more index
pub more_lines : (path : List ℕ) (ns : List (Option (List ℕ))) (i : ℕ) (o : Option (List ℕ)) → i < length ns
    → o ≡ slice_index_or ns i None
    → need_lines path (take i ns) ++ need_line path o ≡ need_lines path (take (i + 1) ns)
more_lines path ns i o l e =
    sym (ap (need_lines path) (take_more ns i None l)
    ∙ (flat_map-append (need_line path) (take i ns) (slice_index_or ns i None ∷ [])
    ∙ ap (λ (v : List ℕ). need_lines path (take i ns) ++ v)
    (append-nil (need_line path (slice_index_or ns i None)) ∙ sym (ap (need_line path) e))))

pub some_of_both : (a b : List ℕ) → not (is_empty (a ++ b)) ≡ (not (is_empty a) || not (is_empty b))
some_of_both [] b = refl
some_of_both (x ∷ a) b = refl

-- what it costs to look at a node, by what was read of it
node_price : (m : Image) (longest : ℕ) (x : Node) (s : Stat) (k : FileNeeded) → s ≡ stat_of x → k ≡ needs_in m x
    → effort longest s.size k ≡ node_effort m longest x
node_price m longest x s k e f =
    ap (λ (v : Stat). effort longest v.size k) e ∙ ap (effort longest (length (places_of x))) f

-- the text so far, the lines of the name that was given, and the rest
next_needs : (m : Image) (longest left rest : ℕ) (done all : List ℕ) (n : Name) (old new : List Name) (k : FileNeeded)
    (price : ℕ) → old ≡ n ∷ new → k ≡ needs_in m n.node → price ≡ node_effort m longest n.node → rest + price ≡ left
    → done ++ needs_from m longest left old ≡ all
    → (done ++ need_lines (escaped n.path) (missing m k)) ++ needs_from m longest rest new ≡ all
next_needs m longest left rest done all n old new k price e f p r h =
    let lines : List ℕ = need_lines (escaped n.path) (missing m (needs_in m n.node)) in
    let P : FileNeeded → Type 0 = λ v. (done ++ need_lines (escaped n.path) (missing m v))
    ++ needs_from m longest rest new ≡ all in
    let l : node_effort m longest n.node ≤ left = omega (arith, p, r) in
    let z = le-ltb left (node_effort m longest n.node) l in
    let s : needs_from m longest left (n ∷ new)
    ≡ lines ++ needs_from m longest (left - node_effort m longest n.node) new = rw z refl in
    let d : left - node_effort m longest n.node ≡ rest = omega (arith, p, r) in
    subst P (sym f)
    (append_assoc done lines (needs_from m longest rest new)
    ∙ (ap (λ (v : ℕ). done ++ (lines ++ needs_from m longest v new)) (sym d)
    ∙ (ap (λ (v : List ℕ). done ++ v) (sym (ap (needs_from m longest left) e ∙ s)) ∙ h)))

-- the name that was given costs too much
unread_needs : (m : Image) (longest left : ℕ) (done all : List ℕ) (n : Name) (old new : List Name) (price : ℕ)
    → old ≡ n ∷ new → price ≡ node_effort m longest n.node → left < price
    → done ++ needs_from m longest left old ≡ all → done ++ unread_line (escaped n.path) ≡ all
unread_needs m longest left done all n old new price e p l h =
    let z = lt-ltb left (node_effort m longest n.node) (omega (arith, p, l)) in
    let s : needs_from m longest left (n ∷ new) ≡ unread_line (escaped n.path) = rw z refl in
    ap (λ (v : List ℕ). done ++ v) (sym (ap (needs_from m longest left) e ∙ s)) ∙ h

-- nothing is to come
pub last_needs : (m : Image) (longest left : ℕ) (done all : List ℕ) (old : List Name) → old ≡ []
    → done ++ needs_from m longest left old ≡ all → done ≡ all
last_needs m longest left done all old e h =
    sym (append-nil done) ∙ (ap (λ (v : List ℕ). done ++ v) (sym (ap (needs_from m longest left) e)) ∙ h)

-- a text with the line of a file that is not looked at is not empty
pub unread_warns : (done path all : List ℕ) → done ++ unread_line path ≡ all → true ≡ not (is_empty all)
unread_warns [] path all e = ap (λ (v : List ℕ). not (is_empty v)) e
unread_warns (x ∷ done) path all e = ap (λ (v : List ℕ). not (is_empty v)) e

-- after the name that a walk has given
pub more_needs : (m : Image) (old new : Walk) (node : ℕ) (s : Stat) (k : FileNeeded) (have rest : Allowance)
    (done all : List ℕ) → (given : IsGiven m old new node)
    → ((x : Node) → image_node m node ≡ Some x → s ≡ stat_of x)
    → ((x : Node) → image_node m node ≡ Some x → k ≡ needs_in m x) → rest.longest ≡ have.longest
    → rest.left + effort have.longest s.size k ≡ have.left
    → done ++ needs_from m have.longest have.left (to_come m old) ≡ all
    → (done ++ need_lines (escaped (given_path new)) (missing m k))
    ++ needs_from m rest.longest rest.left (to_come m new) ≡ all
more_needs m old new node s k have rest done all given e f same taken h =
    let P : List ℕ → Type 0 = λ v. (done ++ need_lines (escaped v) (missing m k))
    ++ needs_from m rest.longest rest.left (to_come m new) ≡ all in
    let Q : ℕ → Type 0 = λ v. (done ++ need_lines (escaped given.name.path) (missing m k))
    ++ needs_from m v rest.left (to_come m new) ≡ all in
    let x : Node = given.name.node in
    subst P (sym given.path)
    (subst Q (sym same)
    (next_needs m have.longest have.left rest.left done all given.name (to_come m old) (to_come m new) k
    (effort have.longest s.size k) given.first (f x given.node)
    (node_price m have.longest x s k (e x given.node) (f x given.node)) taken h))

-- at a name that costs too much
pub stopped_needs : (m : Image) (old new : Walk) (node : ℕ) (s : Stat) (k : FileNeeded) (have : Allowance)
    (done all : List ℕ) → (given : IsGiven m old new node)
    → ((x : Node) → image_node m node ≡ Some x → s ≡ stat_of x)
    → ((x : Node) → image_node m node ≡ Some x → k ≡ needs_in m x) → have.left < effort have.longest s.size k
    → done ++ needs_from m have.longest have.left (to_come m old) ≡ all
    → done ++ unread_line (escaped (given_path new)) ≡ all
stopped_needs m old new node s k have done all given e f l h =
    let P : List ℕ → Type 0 = λ v. done ++ unread_line (escaped v) ≡ all in
    let x : Node = given.name.node in
    subst P (sym given.path)
    (unread_needs m have.longest have.left done all given.name (to_come m old) (to_come m new)
    (effort have.longest s.size k) given.first
    (node_price m have.longest x s k (e x given.node) (f x given.node)) l h)
