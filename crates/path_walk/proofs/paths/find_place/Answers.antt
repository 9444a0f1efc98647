use Rattle.std.proofs.Common.{◌≡◌, ℕ, ◌+◌, ◌∷◌, [], ◌++◌, List, length, ap, sym, ◌∙◌, subst, arith, true, ◌*◌, ◌<◌}
use Rattle.std.proofs.Common.{Bool, ◌==◌, refl, Result, Err, length-append}
use Rattle.std.specs.Prelude.{not, ◌&&◌, if◌then◌else◌}
use Rattle.std.specs.Borrow.{Bor}
use Rattle.rom_tree.specs.Image.{Image, contents_of}
use Rattle.path_walk.specs.declared.error.WalkError.{WalkError}
use Rattle.path_walk.specs.declared.mount.Mount.{Mount}
use Rattle.path_walk.specs.declared.mount.Location.{Location}
use Rattle.path_walk.specs.Components.{begins_with_slash}
use Rattle.path_walk.specs.Resolution.{Namespace, at_root, Trail, resolution, resolve, to_root}
use Rattle.path_walk.specs.Graft.{MountedNode, graft, bytes_in, are_mounts, AreShallow}
use Rattle.path_walk.specs.Trails.{Held, NamesAt, IsTrail, IsFoundWithin, NoneEmpty, unread_bytes}
use Rattle.path_walk.specs.Trails.{unread_components}
use Rattle.path_walk.specs.declared.budget.Purse.{Purse}
use Rattle.path_walk.proofs.Texts.{none-push, none-nil, bytes-push}
use Rattle.path_walk.proofs.Trails.{first_trail, root_named}
use Rattle.path_walk.proofs.Turns.{first_components, turn_fails, turn_goes, turn_loops, turn_follows, walk_ends}
use Rattle.path_walk.proofs.Answered.{handed_on}
use Rattle.path_walk.proofs.Led.{led, led_on, led_link, link_read, named_there}
use Rattle.path_walk.specs.declared.error.WithinError.TheVariants.{Path}
use Rattle.path_walk.specs.Compared.{compared_at, compared_by, names_compared, AreTakenFrom}
use Rattle.path_walk.proofs.Counted.{turn_begins, names_fail, names_go_on, names_loop, names_follow, names_end}
use Rattle.path_walk.proofs.Counted.{none_taken, taken_after, too_many_after}
use Rattle.path_walk.proofs.paths.find_place.Goals as goal

pub returns-in_err-check_path-clause-ends : goal.returns-in_err-check_path-clause-ends
returns-in_err-check_path-clause-ends g c =
    let ms : List Image = (g.G.Gathered.held c.args.images.now).images in
    let us : List Mount = c.args.mounts.now in
    let follow : Bool = c.args.follow_last in
    let b : Purse = c.args.purse.now in
    let from : ℕ → Type 0 = λ n. AreTakenFrom b b n in
    let z = c.in_err-check_path.ensures.compared (graft ms us) follow in
    handed_on (λ r. IsFoundWithin ms us c.args.path.now follow b b r) c.from_residual.result
    (Path c.in_err-check_path.field-0.0) c.from_residual.ensures.1
    (c.in_err-check_path.ensures.leads (graft ms us) follow, subst from (sym z) (none_taken b))

pub loop-component-init : goal.loop-component-init
loop-component-init g c =
    let ms : List Image = (g.G.Gathered.held c.args.images.now).images in
    let us : List Mount = c.args.mounts.now in
    let gr : Namespace MountedNode = graft ms us in
    let path : List ℕ = c.args.path.now in
    let follow : Bool = c.args.follow_last in
    let u : c.push.new.self.items ≡ c.args.path ∷ [] =
    c.push.ensures.items ∙ ap (λ (v : List (Bor (List ℕ))). v ++ c.args.path ∷ []) c.new-unread.ensures in
    let P : List (Bor (List ℕ)) → Type 0 = λ v. NoneEmpty v in
    let root : Location = record { image = 0; node = c.root_in.result } in
    let rs : NamesAt ms root gr.root = root_named ms us root c.requires.some refl c.root_in.ensures in
    let all : Result MountedNode WalkError = resolution gr path follow in
    let R : ℕ → Type 0 = λ n. resolve gr follow n (at_root gr) (unread_components c.push.new.self.items) ≡ all in
    let C : ℕ → Type 0 = λ n. 0 + compared_by gr follow n (at_root gr) (unread_components c.push.new.self.items)
    ≡ names_compared gr path follow in
    let q : compared_by gr follow 40 (at_root gr) (unread_components c.push.new.self.items)
    ≡ names_compared gr path follow =
    ap (compared_by gr follow 40 (at_root gr)) (first_components c.push.new.self.items c.args.path u)
    ∙ sym (c.in_ok-check_path.ensures.compared gr follow) in
    let r : R 40 = ap (resolve gr follow 40 (at_root gr)) (first_components c.push.new.self.items c.args.path u)
    ∙ sym (c.in_ok-check_path.ensures.leads gr follow) in
    record {
      held = refl;
      trail = at_root gr;
      is = first_trail ms us root c.new-ancestors.result.items c.requires.shallow rs c.new-ancestors.ensures;
      links = omega arith;
      full = omega (arith, ap length u);
      none_empty = subst P (sym u) (none-push [] c.args.path none-nil c.in_ok-check_path.ensures.some);
      rest = subst R refl r;
      spent = 0;
      to_come = subst C refl (omega (arith, q));
      taken = none_taken c.args.purse.now;
    }

pub take_names_in-requires : goal.take_names_in-requires
take_names_in-requires g c κs =
    let i = c.loop-component.invariant in
    let P : Held → Type 0 = λ (v : Held). NamesAt v.images c.loop-component.current i.trail.current in
    ((refl, tt), (i.trail.current, subst P (sym i.held) i.is.named, tt))

pub returns-then-not-take_names_in-clause-ends : goal.returns-then-not-take_names_in-clause-ends
returns-then-not-take_names_in-clause-ends g c =
    let h : Held = g.G.Gathered.held c.args.images.now in
    let us : List Mount = c.args.mounts.now in
    let gr : Namespace MountedNode = graft h.images us in
    let follow : Bool = c.args.follow_last in
    let i = c.loop-component.invariant in
    let k = c.if-not-take_names_in.ensures.too_many i.trail.current
    (named_there i.held c.loop-component.current i.is.named) in
    let n = turn_begins gr follow c.loop-component.links i.trail c.in-Some.component.now c.loop-component.unread.items
    c.take_component.new.unread.items true c.in-Some.ensures.component c.take_component.ensures.none_empty in
    too_many_after c.take_names_in.new.purse i.spent _ (names_compared gr c.args.path.now follow) i.taken k
    (omega (arith, i.to_come, n))

pub advance-requires : goal.advance-requires
advance-requires g c κs =
    let i = c.loop-component.invariant in
    let us : List Mount = c.args.mounts.now in
    let are : Held → Type 0 = λ (v : Held). (are_mounts v.images us ≡ true) × (64 * length v.images < g.row.N)
    × AreShallow v.images × IsTrail v.images us c.loop-component.current c.loop-component.ancestors.items i.trail in
    let a : are (g.G.Gathered.held c.loop-component.images) =
    subst are (sym i.held) (c.requires.mounts, c.requires.places, c.requires.shallow, i.is) in
    (omega (arith, c.requires.few), ((refl, tt), (a.0, (a.1, (c.requires.few, (a.2, (i.trail, a.3)))))))

pub returns-in_err-link-clause-ends : goal.returns-in_err-link-clause-ends
returns-in_err-link-clause-ends g c =
    let h : Held = g.G.Gathered.held c.args.images.now in
    let us : List Mount = c.args.mounts.now in
    let gr : Namespace MountedNode = graft h.images us in
    let follow : Bool = c.args.follow_last in
    let all : Result MountedNode WalkError = resolution gr c.args.path.now follow in
    let i = c.loop-component.invariant in
    let st : Bool = c.last_stays-stays.result in
    let t : st ≡ ((length c.take_component.new.unread.items == 0) && not follow) =
    c.last_stays-stays.ensures ∙ ap (λ (v : Bool). v && not follow) c.is_empty.ensures in
    let e : WalkError = c.in_err-link.field-0.0 in
    let d = led (g.G.Gathered.held c.loop-component.images) h i.held us c.loop-component.current
    c.loop-component.ancestors.items i.trail c.in-Some.component.now st c.advance.new.current
    c.advance.new.ancestors.items (Err e) i.is (c.in_err-link.ensures.leads i.trail) in
    let n = names_fail gr follow c.loop-component.links i.trail c.in-Some.component.now c.loop-component.unread.items
    c.take_component.new.unread.items st c.in-Some.ensures.component c.take_component.ensures.none_empty t e d in
    let k = c.if-not-take_names_in.ensures.taken i.trail.current
    (named_there i.held c.loop-component.current i.is.named) in
    handed_on (λ r. IsFoundWithin h.images us c.args.path.now follow c.args.purse.now c.take_names_in.new.purse r)
    c.from_residual-in_err-link.result (Path e) c.from_residual-in_err-link.ensures.1 (
      turn_fails gr follow c.loop-component.links i.trail c.in-Some.component.now c.loop-component.unread.items
          c.take_component.new.unread.items st all i.rest c.in-Some.ensures.component
          c.take_component.ensures.none_empty t e d,
      taken_after c.take_names_in.new.purse i.spent _ (names_compared gr c.args.path.now follow) i.taken k
          (omega (arith, i.to_come, n)),
    )

pub returns-then-links-eq0-clause-ends : goal.returns-then-links-eq0-clause-ends
returns-then-links-eq0-clause-ends g c =
    let h : Held = g.G.Gathered.held c.args.images.now in
    let us : List Mount = c.args.mounts.now in
    let gr : Namespace MountedNode = graft h.images us in
    let follow : Bool = c.args.follow_last in
    let all : Result MountedNode WalkError = resolution gr c.args.path.now follow in
    let i = c.loop-component.invariant in
    let st : Bool = c.last_stays-stays.result in
    let t : st ≡ ((length c.take_component.new.unread.items == 0) && not follow) =
    c.last_stays-stays.ensures ∙ ap (λ (v : Bool). v && not follow) c.is_empty.ensures in
    let d = led_link (g.G.Gathered.held c.loop-component.images) h i.held us c.loop-component.current
    c.loop-component.ancestors.items i.trail c.in-Some.component.now st c.advance.new.current
    c.advance.new.ancestors.items c.in_ok-link.link c.in-Some-link.link c.in-Some-link.is i.is
    (c.in_ok-link.ensures.leads i.trail) in
    let n = names_loop gr follow c.loop-component.links i.trail c.in-Some.component.now c.loop-component.unread.items
    c.take_component.new.unread.items st c.in-Some.ensures.component c.take_component.ensures.none_empty t d.0 d.1
    c.if-links-eq0.true in
    let k = c.if-not-take_names_in.ensures.taken i.trail.current
    (named_there i.held c.loop-component.current i.is.named) in (
      turn_loops gr follow c.loop-component.links i.trail c.in-Some.component.now c.loop-component.unread.items
          c.take_component.new.unread.items st all i.rest c.in-Some.ensures.component
          c.take_component.ensures.none_empty t d.0 d.1 c.if-links-eq0.true,
      taken_after c.take_names_in.new.purse i.spent _ (names_compared gr c.args.path.now follow) i.taken k
          (omega (arith, i.to_come, n)),
    )

pub link_text_in-text-requires : goal.link_text_in-text-requires
link_text_in-text-requires g c κs =
    let h : Held = g.G.Gathered.held c.args.images.now in
    let us : List Mount = c.args.mounts.now in
    let i = c.loop-component.invariant in
    let d = led_link (g.G.Gathered.held c.loop-component.images) h i.held us c.loop-component.current
    c.loop-component.ancestors.items i.trail c.in-Some.component.now c.last_stays-stays.result c.advance.new.current
    c.advance.new.ancestors.items c.in_ok-link.link c.in-Some-link.link c.in-Some-link.is i.is
    (c.in_ok-link.ensures.leads i.trail) in
    let named : Held → Type 0 = λ (v : Held). NamesAt v.images c.in-Some-link.link d.0 in
    ((refl, tt), (d.0, subst named (sym (c.advance.ensures.stays ∙ i.held)) d.2, d.3))

pub loop-component-smaller-in-Some-link : goal.loop-component-smaller-in-Some-link
loop-component-smaller-in-Some-link g c =
    let h : Held = g.G.Gathered.held c.args.images.now in
    let us : List Mount = c.args.mounts.now in
    let i = c.loop-component.invariant in
    let d = led_link (g.G.Gathered.held c.loop-component.images) h i.held us c.loop-component.current
    c.loop-component.ancestors.items i.trail c.in-Some.component.now c.last_stays-stays.result c.advance.new.current
    c.advance.new.ancestors.items c.in_ok-link.link c.in-Some-link.link c.in-Some-link.is i.is
    (c.in_ok-link.ensures.leads i.trail) in
    let x = link_read (g.G.Gathered.held c.advance.new.images) h
    (c.advance.ensures.stays ∙ i.held) c.in-Some-link.link d.0 c.link_text_in-text.result.now d.2 d.3
    (c.link_text_in-text.ensures d.0) in
    let k = bytes-push c.take_component.new.unread.items c.link_text_in-text.result in
    let w : unread_bytes c.push-in-Some-link.new.self.items
    ≡ unread_bytes (c.take_component.new.unread.items ++ c.link_text_in-text.result ∷ []) =
    ap unread_bytes c.push-in-Some-link.ensures.items in
    omega (arith, k, w, x.2, c.in-Some.ensures.less, c.if-links-eq0.false)

pub push-requires-in-Some-link : goal.push-requires-in-Some-link
push-requires-in-Some-link g c =
    omega (arith, c.loop-component.invariant.full, c.take_component.ensures.len, c.if-links-eq0.false)

pub loop-component-preserved-in-Some-link : goal.loop-component-preserved-in-Some-link
loop-component-preserved-in-Some-link g c =
    let h : Held = g.G.Gathered.held c.args.images.now in
    let ms : List Image = h.images in
    let us : List Mount = c.args.mounts.now in
    let gr : Namespace MountedNode = graft ms us in
    let follow : Bool = c.args.follow_last in
    let all : Result MountedNode WalkError = resolution gr c.args.path.now follow in
    let i = c.loop-component.invariant in
    let s : Trail MountedNode = i.trail in
    let st : Bool = c.last_stays-stays.result in
    let t : st ≡ ((length c.take_component.new.unread.items == 0) && not follow) =
    c.last_stays-stays.ensures ∙ ap (λ (v : Bool). v && not follow) c.is_empty.ensures in
    let d = led_link (g.G.Gathered.held c.loop-component.images) h i.held us c.loop-component.current
    c.loop-component.ancestors.items s c.in-Some.component.now st c.advance.new.current
    c.advance.new.ancestors.items c.in_ok-link.link c.in-Some-link.link c.in-Some-link.is i.is
    (c.in_ok-link.ensures.leads s) in
    let text : List ℕ = contents_of (bytes_in ms d.0.image) d.0.node in
    let x = link_read (g.G.Gathered.held c.advance.new.images) h
    (c.advance.ensures.stays ∙ i.held) c.in-Some-link.link d.0 c.link_text_in-text.result.now d.2 d.3
    (c.link_text_in-text.ensures d.0) in
    let full : List (Bor (List ℕ)) → Type 0 = λ v. NoneEmpty v in
    let root : Location = record { image = 0; node = c.root_in.result } in
    let rs : NamesAt ms root gr.root = root_named ms us root c.requires.some refl c.root_in.ensures in
    let from : List ℕ → Type 0 = λ v. IsTrail ms us c.start_from.new.current c.start_from.new.ancestors.items
    (if begins_with_slash v then to_root s else s) in
    record {
      held = c.advance.ensures.stays ∙ i.held;
      trail = (if begins_with_slash text then to_root s else s);
      is = subst from x.0 (c.start_from.ensures ms us s d.4 c.requires.shallow rs);
      links = omega (arith, i.links);
      full = omega (
        arith,
        i.full,
        c.take_component.ensures.len,
        ap length c.push-in-Some-link.ensures.items,
        length-append c.take_component.new.unread.items (c.link_text_in-text.result ∷ []),
        c.if-links-eq0.false,
      );
      none_empty = subst full (sym c.push-in-Some-link.ensures.items)
          (none-push c.take_component.new.unread.items c.link_text_in-text.result c.take_component.ensures.none_empty
          x.1);
      rest = turn_follows gr follow c.loop-component.links s c.in-Some.component.now c.loop-component.unread.items
          c.take_component.new.unread.items st all i.rest c.in-Some.ensures.component
          c.take_component.ensures.none_empty t d.0 d.1 c.link_text_in-text.result c.push-in-Some-link.new.self.items
          x.0 c.push-in-Some-link.ensures.items (omega (arith, c.if-links-eq0.false));
      spent = compared_at (gr.node s.current) c.in-Some.component.now + i.spent;
      to_come =
          let n = names_follow gr follow c.loop-component.links s c.in-Some.component.now c.loop-component.unread.items
          c.take_component.new.unread.items st c.in-Some.ensures.component c.take_component.ensures.none_empty t d.0 d.1
          c.link_text_in-text.result c.push-in-Some-link.new.self.items x.0 c.push-in-Some-link.ensures.items
          (omega (arith, c.if-links-eq0.false)) in
          omega (arith, i.to_come, n);
      taken =
          let k = c.if-not-take_names_in.ensures.taken s.current
          (named_there i.held c.loop-component.current i.is.named) in
          taken_after c.take_names_in.new.purse i.spent _ _ i.taken k refl;
    }

pub loop-component-smaller : goal.loop-component-smaller
loop-component-smaller g c = omega (arith, c.in-Some.ensures.less)

pub loop-component-preserved : goal.loop-component-preserved
loop-component-preserved g c =
    let h : Held = g.G.Gathered.held c.args.images.now in
    let us : List Mount = c.args.mounts.now in
    let gr : Namespace MountedNode = graft h.images us in
    let follow : Bool = c.args.follow_last in
    let all : Result MountedNode WalkError = resolution gr c.args.path.now follow in
    let i = c.loop-component.invariant in
    let st : Bool = c.last_stays-stays.result in
    let t : st ≡ ((length c.take_component.new.unread.items == 0) && not follow) =
    c.last_stays-stays.ensures ∙ ap (λ (v : Bool). v && not follow) c.is_empty.ensures in
    let d = led_on (g.G.Gathered.held c.loop-component.images) h i.held us c.loop-component.current
    c.loop-component.ancestors.items i.trail c.in-Some.component.now st c.advance.new.current
    c.advance.new.ancestors.items c.in_ok-link.link c.in_default-link.is i.is
    (c.in_ok-link.ensures.leads i.trail) in
    record {
      held = c.advance.ensures.stays ∙ i.held;
      trail = d.0;
      is = d.2;
      links = i.links;
      full = omega (arith, i.full, c.take_component.ensures.len);
      none_empty = c.take_component.ensures.none_empty;
      rest = turn_goes gr follow c.loop-component.links i.trail c.in-Some.component.now c.loop-component.unread.items
          c.take_component.new.unread.items st all i.rest c.in-Some.ensures.component
          c.take_component.ensures.none_empty t d.0 d.1;
      spent = compared_at (gr.node i.trail.current) c.in-Some.component.now + i.spent;
      to_come =
          let n = names_go_on gr follow c.loop-component.links i.trail c.in-Some.component.now
          c.loop-component.unread.items c.take_component.new.unread.items st c.in-Some.ensures.component
          c.take_component.ensures.none_empty t d.0 d.1 in
          omega (arith, i.to_come, n);
      taken =
          let k = c.if-not-take_names_in.ensures.taken i.trail.current
          (named_there i.held c.loop-component.current i.is.named) in
          taken_after c.take_names_in.new.purse i.spent _ _ i.taken k refl;
    }

pub returns-clause-ends : goal.returns-clause-ends
returns-clause-ends g c =
    let gr : Namespace MountedNode = graft (g.G.Gathered.held c.args.images.now).images c.args.mounts.now in
    let follow : Bool = c.args.follow_last in
    let i = c.loop-component.invariant in
    let n = names_end gr follow c.loop-component.links i.trail c.loop-component.unread.items
    c.in_default.ensures.component in
    let from : ℕ → Type 0 = λ k. AreTakenFrom c.args.purse.now c.loop-component.purse k in
    let all : i.spent ≡ names_compared gr c.args.path.now follow = omega (arith, i.to_come, n) in (
      (
        i.trail.current,
        walk_ends gr follow c.loop-component.links i.trail c.loop-component.unread.items
            (resolution gr c.args.path.now follow) i.rest c.in_default.ensures.component,
        i.is.named,
      ),
      subst from all i.taken,
    )
