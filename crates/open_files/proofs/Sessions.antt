-- The slots of sessions, and the calls of one session.
use Rattle.std.proofs.Common.{◌≡◌, ℕ, zero, suc, ◌<◌, true, false, List, [], ◌∷◌, length, get_or, map, Option, Some}
use Rattle.std.proofs.Common.{None, Result, Ok, Err, refl, sym, ap, ◌∙◌, arith, replicate, ◌==◌, eq-eqb}
use Rattle.std.proofs.Math.Path.{fun_ext}
use Rattle.std.specs.Prelude.{slice_set, if◌then◌else◌, MatchResult}
use Rattle.std.proofs.lemmas.Bool.{false≢true, eqb-true}
use Rattle.rom_tree.specs.declared.types.NodeId.{NodeId}
use Rattle.rom_tree.specs.Tree.{ino_of}
use Rattle.rom_tree.specs.Image.{Image}
use Rattle.path_walk.specs.declared.mount.Mount.{Mount}
use Rattle.path_walk.specs.declared.error.WalkError.{WalkError}
use Rattle.path_walk.specs.Graft.{MountedNode, Names, node_in, IsUncovered}
use Rattle.path_walk.proofs.GraftNodes.{node_in-number}
use Rattle.path_walk.proofs.Mounts.{and_left, and_right}
use Rattle.open_files.specs.declared.error.CallError.{CallError}
use Rattle.open_files.specs.declared.slot.OpenNode.{OpenNode}
use Rattle.open_files.specs.Calls.{Answer, answer, give, Of, viewed}
use Rattle.open_files.specs.Errors.{error_of}
use Rattle.open_files.specs.Machine.{Table, walked}
use Rattle.open_files.specs.Slots.{graft_view, graft_node, stands, are_sound, table_of, labelled}
use Rattle.open_files.specs.Sessions.{Sessions, own_answer, no_sessions}
use Rattle.open_files.specs.Space.{slots_at, all_sound, space_state}
use Rattle.open_files.proofs.Standing.{by_map}
use Rattle.open_files.proofs.Tables.{and_both, table-replicate, stand-replicate}

-- a node of a number in the graft
pub names_by : (ms : List Image) (us : List Mount) (i n : ℕ) (s : MountedNode) → (graft_view ms us).place i n ≡ Some s
    → Names ms i n s
names_by ms us i n s h =
    let r = by_map (graft_node i) (node_in ms i n) s h in
    record { image = ap (λ (v : MountedNode). v.image) r.2; node = r.1 ∙ ap (λ (v : MountedNode). Some v.node) r.2 }

pub place_by : (ms : List Image) (us : List Mount) (i n : ℕ) (s : MountedNode) → Names ms i n s
    → (graft_view ms us).place i n ≡ Some s
place_by ms us i n s h = rw h.node (ap (λ (v : ℕ). Some (record { image = v; node = s.node })) h.image)

module _ (n : ℕ) (ms : List Image) (us : List Mount) where
  pub sound_at : (ts : List (List (Option OpenNode))) (k : ℕ) → all_sound ms us ts ≡ true
      → are_sound (graft_view ms us) (slots_at n ts k) ≡ true
  unfolding all_sound
  sound_at [] k h = stand-replicate (stands (graft_view ms us)) n
  sound_at (t ∷ ts) zero h = and_left (are_sound (graft_view ms us) t) (all_sound ms us ts) h
  sound_at (t ∷ ts) (suc k) h = sound_at ts k (and_right (are_sound (graft_view ms us) t) (all_sound ms us ts) h)

-- what is open does not depend on the mounts
pub other_mounts : (ms : List Image) (us vs : List Mount) (ts : List (List (Option OpenNode)))
    → all_sound ms us ts ≡ true → all_sound ms vs ts ≡ true
unfolding all_sound
other_mounts ms us vs [] h = refl
other_mounts ms us vs (t ∷ ts) h = and_both (are_sound (graft_view ms vs) t) (all_sound ms vs ts)
    (and_left (are_sound (graft_view ms us) t) (all_sound ms us ts) h)
    (other_mounts ms us vs ts (and_right (are_sound (graft_view ms us) t) (all_sound ms us ts) h))

module _ {S : Type 0} (f : S → List (Option OpenNode)) where
  pub slots_index : (n : ℕ) (ts : List S) (k : ℕ) (d : S) → k < length ts → slots_at n (map f ts) k ≡ f (get_or ts k d)
  slots_index n [] k d l = absurd (omega (arith, l))
  slots_index n (t ∷ ts) zero d l = refl
  slots_index n (t ∷ ts) (suc k) d l = slots_index n ts k d (omega (arith, l))

  at_other : (n : ℕ) (ts : List S) (k j : ℕ) (z : S) → (j ≡ k → ⊥)
      → slots_at n (map f (slice_set ts k z)) j ≡ slots_at n (map f ts) j
  at_other n [] k j z e = refl
  at_other n (t ∷ ts) zero zero z e = absurd (e refl)
  at_other n (t ∷ ts) zero (suc j) z e = refl
  at_other n (t ∷ ts) (suc k) zero z e = refl
  at_other n (t ∷ ts) (suc k) (suc j) z e = at_other n ts k j z (λ q. e (ap suc q))

  pub at_same : (n : ℕ) (ts : List S) (k : ℕ) (z : S) → k < length ts → slots_at n (map f (slice_set ts k z)) k ≡ f z
  at_same n [] k z l = absurd (omega (arith, l))
  at_same n (t ∷ ts) zero z l = refl
  at_same n (t ∷ ts) (suc k) z l = at_same n ts k z (omega (arith, l))

  slots_set : {R : Type 0} (g : List (Option OpenNode) → R) (n : ℕ) (ts : List S) (k : ℕ) (z : S) → k < length ts
      → (j : ℕ) → g (slots_at n (map f (slice_set ts k z)) j)
      ≡ (if j == k then g (f z) else g (slots_at n (map f ts) j))
  slots_set {R} g n ts k z l j =
      elim (j == k) as (λ w. (j == k) ≡ w
      → g (slots_at n (map f (slice_set ts k z)) j) ≡ (if w then g (f z) else g (slots_at n (map f ts) j))) [
        | true ↦ λ e. ap (λ (v : ℕ). g (slots_at n (map f (slice_set ts k z)) v)) (eqb-true j k e)
            ∙ ap g (at_same n ts k z l)
        | false ↦ λ e. ap g (at_other n ts k j z (λ q. false≢true (sym e ∙ eq-eqb j k q)))
      ] refl

  pub all_sound_set : (ms : List Image) (us : List Mount) (ts : List S) (k : ℕ) (z : S)
      → all_sound ms us (map f ts) ≡ true → are_sound (graft_view ms us) (f z) ≡ true
      → all_sound ms us (map f (slice_set ts k z)) ≡ true
  unfolding all_sound
  all_sound_set ms us [] k z h e = h
  all_sound_set ms us (t ∷ ts) zero z h e =
      and_both (are_sound (graft_view ms us) (f z)) (all_sound ms us (map f ts)) e
      (and_right (are_sound (graft_view ms us) (f t)) (all_sound ms us (map f ts)) h)
  all_sound_set ms us (t ∷ ts) (suc k) z h e =
      and_both (are_sound (graft_view ms us) (f t)) (all_sound ms us (map f (slice_set ts k z)))
      (and_left (are_sound (graft_view ms us) (f t)) (all_sound ms us (map f ts)) h)
      (all_sound_set ms us ts k z (and_right (are_sound (graft_view ms us) (f t)) (all_sound ms us (map f ts)) h) e)

  -- a session's answer is that on its own slots, which then are in their place
  pub own_sets : {R : Type 0} (n : ℕ) (ms : List Image) (us : List Mount) (ts : List S) (k : ℕ) (d z : S)
      (a : Table MountedNode → Answer (Table MountedNode) R) (r : Result R CallError) → k < length ts
      → a (table_of (graft_view ms us) (f (get_or ts k d))) ≡ answer r (table_of (graft_view ms us) (f z))
      → own_answer (space_state n ms us (map f ts)) k (a (table_of (graft_view ms us) (slots_at n (map f ts) k)))
      ≡ answer r (space_state n ms us (map f (slice_set ts k z)))
  own_sets n ms us ts k d z a r l e =
      let g : List (Option OpenNode) → Table MountedNode = λ x. table_of (graft_view ms us) x in
      let q : a (g (slots_at n (map f ts) k)) ≡ answer r (g (f z)) = ap (λ x. a (g x)) (slots_index n ts k d l) ∙ e in
      ap (own_answer (space_state n ms us (map f ts)) k) q
      ∙ ap (λ (o : ℕ → Table MountedNode). answer r (record { shared = us; own = o }))
      (sym (fun_ext (slots_set g n ts k z l)))

same_number : (j k : ℕ) → (j == k) ≡ true → j ≡ k
same_number j k e = eqb-true j k e

own_same : {A : Type 0} (g : ℕ → A) (k j : ℕ) → (if j == k then g k else g j) ≡ g j
own_same g k j =
    elim (j == k) as (λ w. (j == k) ≡ w → (if w then g k else g j) ≡ g j) [
      | true ↦ λ e. ap g (sym (same_number j k e))
      | false ↦ λ e. refl
    ] refl

-- a session's answer that leaves its slots
pub own_stays : {R : Type 0} (n : ℕ) (ms ms' : List Image) (us us' : List Mount)
    (ts ts' : List (List (Option OpenNode))) (k : ℕ) (a : Answer (Table MountedNode) R) (r : Result R CallError)
    → ms' ≡ ms → us' ≡ us → ts' ≡ ts → a ≡ answer r (table_of (graft_view ms us) (slots_at n ts k))
    → own_answer (space_state n ms us ts) k a ≡ answer r (space_state n ms' us' ts')
own_stays n ms ms' us us' ts ts' k a r e f h q =
    let g : ℕ → Table MountedNode = λ j. table_of (graft_view ms us) (slots_at n ts j) in
    ap (own_answer (space_state n ms us ts) k) q
    ∙ (ap (λ (o : ℕ → Table MountedNode). answer r (record { shared = us; own = o })) (fun_ext (own_same g k))
    ∙ (ap (λ z. answer r (space_state n z us ts)) (sym e)
    ∙ (ap (λ z. answer r (space_state n ms' z ts)) (sym f) ∙ ap (λ z. answer r (space_state n ms' us' z)) (sym h))))

-- other mounts: the tables are the same
pub state_mounts : (n : ℕ) (ms ms' : List Image) (us us' vs : List Mount) (ts ts' : List (List (Option OpenNode)))
    → ms' ≡ ms → us' ≡ vs → ts' ≡ ts
    → record { shared = vs; own = (space_state n ms us ts).own } ≡ space_state n ms' us' ts'
state_mounts n ms ms' us us' vs ts ts' e f h =
    ap (λ z. space_state n z vs ts) (sym e)
    ∙ (ap (λ z. space_state n ms' z ts) (sym f) ∙ ap (λ z. space_state n ms' us' z) (sym h))

-- Nothing is open.

pub eight_sound : (ms : List Image) (us : List Mount) (v : List (Option OpenNode))
    → are_sound (graft_view ms us) v ≡ true → all_sound ms us (v ∷ v ∷ v ∷ v ∷ v ∷ v ∷ v ∷ v ∷ []) ≡ true
unfolding all_sound
eight_sound ms us v h = rw h refl

eight_at : (n : ℕ) (v : List (Option OpenNode)) → v ≡ replicate n None → (k : ℕ)
    → slots_at n (v ∷ v ∷ v ∷ v ∷ v ∷ v ∷ v ∷ v ∷ []) k ≡ replicate n None
eight_at n v e zero = e
eight_at n v e (suc zero) = e
eight_at n v e (suc (suc zero)) = e
eight_at n v e (suc (suc (suc zero))) = e
eight_at n v e (suc (suc (suc (suc zero)))) = e
eight_at n v e (suc (suc (suc (suc (suc zero))))) = e
eight_at n v e (suc (suc (suc (suc (suc (suc zero)))))) = e
eight_at n v e (suc (suc (suc (suc (suc (suc (suc zero))))))) = e
eight_at n v e (suc (suc (suc (suc (suc (suc (suc (suc k)))))))) = refl

pub eight_empty : (n : ℕ) (ms : List Image) (us : List Mount) (v : List (Option OpenNode)) → us ≡ []
    → v ≡ replicate n None → space_state n ms us (v ∷ v ∷ v ∷ v ∷ v ∷ v ∷ v ∷ v ∷ []) ≡ no_sessions n
eight_empty n ms us v e h =
    let q : (k : ℕ) → table_of (graft_view ms us) (slots_at n (v ∷ v ∷ v ∷ v ∷ v ∷ v ∷ v ∷ v ∷ []) k) ≡ replicate n None
    = λ k. ap (λ z. table_of (graft_view ms us) z) (eight_at n v h k) ∙ table-replicate (stands (graft_view ms us)) n in
    ap (λ (o : ℕ → Table MountedNode). record { shared = us; own = o }) (fun_ext q)
    ∙ ap (λ (z : List Mount). record { shared = z; own = λ k. replicate n None }) e

-- A call on a state, by parts of it that are equal.
pub same_state : {R : Type 0} (n : ℕ) (call : List Image → Sessions (List Mount) (Table MountedNode) → R)
    (ms ms' : List Image) (us us' : List Mount) (ts ts' : List (List (Option OpenNode)))
    → ms' ≡ ms → us' ≡ us → ts' ≡ ts → call ms (space_state n ms us ts) ≡ call ms' (space_state n ms' us' ts')
same_state n call ms ms' us us' ts ts' e f h =
    ap (λ z. call z (space_state n z us ts)) (sym e)
    ∙ (ap (λ z. call ms' (space_state n ms' z ts)) (sym f) ∙ ap (λ z. call ms' (space_state n ms' us' z)) (sym h))

-- what a walk led to, seen as a reply
pub looked_up : (ms : List Image) (us : List Mount) (t : Table MountedNode) (a : Result MountedNode WalkError)
    (r : Result (ℕ × NodeId) CallError)
    → MatchResult r (λ p. (s : MountedNode) × (a ≡ Ok s) × ((graft_view ms us).place p.0 p.1.0 ≡ Some s)
    × IsUncovered us p.0 p.1.0) (λ e. (w : WalkError) × (a ≡ Err w) × (e ≡ error_of w))
    → walked {R = Of ℕ} t (λ x. give (Some x.image, ino_of x.node) t) a
    ≡ answer (viewed (labelled (λ i. Some i) (λ n. n.0)) r) t
looked_up ms us t a (Ok p) h =
    let m = names_by ms us p.0 p.1.0 h.0 h.2 in
    let ok : ℕ → ℕ → Answer (Table MountedNode) (Of ℕ) = λ i n. answer (Ok (Some i, n)) t in
    ap (walked {R = Of ℕ} t (λ x. give (Some x.image, ino_of x.node) t)) h.1
    ∙ (ap (λ (i : ℕ). ok i (ino_of h.0.node)) (sym m.image)
    ∙ ap (ok p.0) (node_in-number ms p.0 p.1.0 h.0.node m.node))
looked_up ms us t a (Err e) h = ap (walked {R = Of ℕ} t (λ x. give (Some x.image, ino_of x.node) t)) h.1
    ∙ ap (λ (e : CallError). answer {R = Of ℕ} (Err e) t) (sym h.2)
