use Rattle.std.proofs.Common.{◌≡◌, ℕ, List, length, ap, sym, ◌∙◌, subst, arith, false, true, Bool, refl, nat_lt}
use Rattle.std.specs.Prelude.{unwrap_or}
use Rattle.std.specs.Str.{bytes_eq}
use Rattle.rom_tree.specs.Dots.{dot, dot_dot}
use Rattle.rom_tree.specs.Tree.{Node, is_directory, is_link}
use Rattle.rom_tree.specs.Image.{Image}
use Rattle.path_walk.specs.declared.mount.Mount.{Mount}
use Rattle.path_walk.specs.declared.mount.Location.{Location}
use Rattle.path_walk.specs.Resolution.{Namespace, Trail, step, found, parent, enter}
use Rattle.path_walk.specs.Graft.{MountedNode, graft, shown, are_mounts}
use Rattle.path_walk.specs.Trails.{Held, NamesAt, IsTrail}
use Rattle.path_walk.proofs.Trails.{step-file, step-long, step-dot, step-dot_dot, step-named, found-none, found-link}
use Rattle.path_walk.proofs.Trails.{found-file, found-last, dot_dot_trail, enter_trail, trail_room, entry_some}
use Rattle.path_walk.proofs.Trails.{entry_none, entry_named, lt_true, lt_false}
use Rattle.path_walk.proofs.step.advance.Goals as goal
use Rattle.path_walk.proofs.step.advance.Goals.{else-is_link_in-via-then-is_link_in+else-not-stays}
use Rattle.path_walk.proofs.step.advance.Goals.{else-is_link_in-via-else-is_link_in}

pub is_directory_in-requires : goal.is_directory_in-requires
is_directory_in-requires g c κs =
    let ms : List Image = (g.G.Gathered.held c.args.images.now).images in
    let us : List Mount = c.args.mounts.now in
    let s : Trail MountedNode = c.requires.trail.0 in
    let i : IsTrail ms us c.args.current.now c.args.ancestors.now.items s = c.requires.trail.1 in
    ((refl, tt), (s.current, i.named, tt))

pub returns-then-not-is_directory_in-clause-leads : goal.returns-then-not-is_directory_in-clause-leads
returns-then-not-is_directory_in-clause-leads g c = λ s i.
    let ms : List Image = (g.G.Gathered.held c.args.images.now).images in
    let us : List Mount = c.args.mounts.now in
    let gr : Namespace MountedNode = graft ms us in
    let pt : List ℕ = c.args.component.now in
    let st : Bool = c.args.stays in
    step-file gr s pt st (sym c.if-not-is_directory_in.true ∙ c.is_directory_in.ensures s.current i.named)

pub returns-then-component-gt-COMPONENT_MAX-clause-leads : goal.returns-then-component-gt-COMPONENT_MAX-clause-leads
returns-then-component-gt-COMPONENT_MAX-clause-leads g c = λ s i.
    let ms : List Image = (g.G.Gathered.held c.args.images.now).images in
    let us : List Mount = c.args.mounts.now in
    let gr : Namespace MountedNode = graft ms us in
    let pt : List ℕ = c.args.component.now in
    let st : Bool = c.args.stays in
    let d : true ≡ is_directory s.current.node =
    sym c.if-not-is_directory_in.false ∙ c.is_directory_in.ensures s.current i.named in
    step-long gr s pt st d (lt_true 255 (length pt) c.if-component-gt-COMPONENT_MAX.true)

pub returns-then-is_dot-clause-leads : goal.returns-then-is_dot-clause-leads
returns-then-is_dot-clause-leads g c = λ s i.
    let ms : List Image = (g.G.Gathered.held c.args.images.now).images in
    let us : List Mount = c.args.mounts.now in
    let gr : Namespace MountedNode = graft ms us in
    let pt : List ℕ = c.args.component.now in
    let st : Bool = c.args.stays in
    let d : true ≡ is_directory s.current.node =
    sym c.if-not-is_directory_in.false ∙ c.is_directory_in.ensures s.current i.named in
    let l : nat_lt 255 (length pt) ≡ false = lt_false 255 (length pt) (omega arith) in
    (s, step-dot gr s pt st d l (sym c.is_dot.ensures.test ∙ c.if-is_dot.true), i)

pub returns-then-is_dot_dot-clause-leads : goal.returns-then-is_dot_dot-clause-leads
returns-then-is_dot_dot-clause-leads g c = λ s i.
    let ms : List Image = (g.G.Gathered.held c.args.images.now).images in
    let us : List Mount = c.args.mounts.now in
    let gr : Namespace MountedNode = graft ms us in
    let pt : List ℕ = c.args.component.now in
    let st : Bool = c.args.stays in
    let d : true ≡ is_directory s.current.node =
    sym c.if-not-is_directory_in.false ∙ c.is_directory_in.ensures s.current i.named in
    let l : nat_lt 255 (length pt) ≡ false = lt_false 255 (length pt) (omega arith) in
    let p : bytes_eq pt dot ≡ false = sym c.is_dot.ensures.test ∙ c.if-is_dot.false in
    let q : bytes_eq pt dot_dot ≡ true = sym c.is_dot_dot.ensures.test ∙ c.if-is_dot_dot.true in
    let up : IsTrail ms us (unwrap_or c.pop.result c.args.current.now) c.pop.new.self.items (parent s) =
    dot_dot_trail ms us c.args.current.now c.args.ancestors.now.items c.pop.new.self.items c.pop.result s i
    c.pop.ensures.items c.pop.ensures.variant.1 in
    let at : Location → Type 0 = λ v. IsTrail ms us v c.pop.new.self.items (parent s) in
    (parent s, step-dot_dot gr s pt st d l p q, subst at (sym c.unwrap_or.ensures) up)

pub find_in-requires : goal.find_in-requires
find_in-requires g c κs =
    let ms : List Image = (g.G.Gathered.held c.args.images.now).images in
    let us : List Mount = c.args.mounts.now in
    let s : Trail MountedNode = c.requires.trail.0 in
    let i : IsTrail ms us c.args.current.now c.args.ancestors.now.items s = c.requires.trail.1 in
    let d : true ≡ is_directory s.current.node =
    sym c.if-not-is_directory_in.false ∙ c.is_directory_in.ensures s.current i.named in
    ((refl, tt), (s.current, i.named, sym d))

pub returns-in_default-clause-leads : goal.returns-in_default-clause-leads
returns-in_default-clause-leads g c = λ s i.
    let ms : List Image = (g.G.Gathered.held c.args.images.now).images in
    let us : List Mount = c.args.mounts.now in
    let gr : Namespace MountedNode = graft ms us in
    let pt : List ℕ = c.args.component.now in
    let st : Bool = c.args.stays in
    let d : true ≡ is_directory s.current.node =
    sym c.if-not-is_directory_in.false ∙ c.is_directory_in.ensures s.current i.named in
    let l : nat_lt 255 (length pt) ≡ false = lt_false 255 (length pt) (omega arith) in
    let p : bytes_eq pt dot ≡ false = sym c.is_dot.ensures.test ∙ c.if-is_dot.false in
    let q : bytes_eq pt dot_dot ≡ false = sym c.is_dot_dot.ensures.test ∙ c.if-is_dot_dot.false in
    let a : step gr s pt st ≡ found gr st s (gr.entry s.current pt) = step-named gr s pt st d l p q in
    a ∙ found-none gr st s (gr.entry s.current pt)
    (entry_none ms us s.current pt (c.in_default.ensures.found s.current i.named))

pub shown_place-found-requires : goal.shown_place-found-requires
shown_place-found-requires g c κs =
    let us : List Mount = c.args.mounts.now in
    let hs : g.G.Gathered.held c.find_in.new.self ≡ g.G.Gathered.held c.args.images.now = c.find_in.ensures.stays in
    let P : Held → Type 0 = λ (v : Held). are_mounts v.images us ≡ true in
    ((refl, tt), subst P (sym hs) c.requires.mounts)

pub is_link_in-requires : goal.is_link_in-requires
is_link_in-requires g c κs =
    let ms : List Image = (g.G.Gathered.held c.args.images.now).images in
    let us : List Mount = c.args.mounts.now in
    let pt : List ℕ = c.args.component.now in
    let s : Trail MountedNode = c.requires.trail.0 in
    let i : IsTrail ms us c.args.current.now c.args.ancestors.now.items s = c.requires.trail.1 in
    let f = c.in-Some.ensures.found s.current i.named in
    let x : Node = f.0 in
    let t : MountedNode = record { image = s.current.image; node = x } in
    let pl : Location = record { image = c.args.current.now.image; node = c.in-Some.node } in
    let ip : NamesAt ms pl t = entry_named ms c.args.current.now s.current x c.in-Some.node.0 pt i.named f.1 f.2 in
    let hs : g.G.Gathered.held c.find_in.new.self ≡ g.G.Gathered.held c.args.images.now = c.find_in.ensures.stays in
    let P : Held → Type 0 = λ (v : Held). NamesAt v.images pl t in
    let iq' : NamesAt (g.G.Gathered.held c.find_in.new.self).images c.shown_place-found.result
    (shown (g.G.Gathered.held c.find_in.new.self).images us t) =
    c.shown_place-found.ensures t (subst P (sym hs) ip) in
    ((refl, tt), (shown (g.G.Gathered.held c.find_in.new.self).images us t, iq', tt))

pub returns-then-not-stays-clause-leads : goal.returns-then-not-stays-clause-leads
returns-then-not-stays-clause-leads g c = λ s i.
    let ms : List Image = (g.G.Gathered.held c.args.images.now).images in
    let us : List Mount = c.args.mounts.now in
    let gr : Namespace MountedNode = graft ms us in
    let pt : List ℕ = c.args.component.now in
    let st : Bool = c.args.stays in
    let d : true ≡ is_directory s.current.node =
    sym c.if-not-is_directory_in.false ∙ c.is_directory_in.ensures s.current i.named in
    let l : nat_lt 255 (length pt) ≡ false = lt_false 255 (length pt) (omega arith) in
    let p : bytes_eq pt dot ≡ false = sym c.is_dot.ensures.test ∙ c.if-is_dot.false in
    let q : bytes_eq pt dot_dot ≡ false = sym c.is_dot_dot.ensures.test ∙ c.if-is_dot_dot.false in
    let a : step gr s pt st ≡ found gr st s (gr.entry s.current pt) = step-named gr s pt st d l p q in
    let f = c.in-Some.ensures.found s.current i.named in
    let x : Node = f.0 in
    let t : MountedNode = record { image = s.current.image; node = x } in
    let pl : Location = record { image = c.args.current.now.image; node = c.in-Some.node } in
    let ip : NamesAt ms pl t = entry_named ms c.args.current.now s.current x c.in-Some.node.0 pt i.named f.1 f.2 in
    let hs : g.G.Gathered.held c.find_in.new.self ≡ g.G.Gathered.held c.args.images.now = c.find_in.ensures.stays in
    let P : Held → Type 0 = λ (v : Held). NamesAt v.images pl t in
    let Q : Held → Type 0 = λ (v : Held). NamesAt v.images c.shown_place-found.result (shown v.images us t) in
    let iq' : NamesAt (g.G.Gathered.held c.find_in.new.self).images c.shown_place-found.result
    (shown (g.G.Gathered.held c.find_in.new.self).images us t) =
    c.shown_place-found.ensures t (subst P (sym hs) ip) in
    let iq : NamesAt ms c.shown_place-found.result (shown ms us t) = subst Q hs iq' in
    let y : MountedNode = shown ms us t in
    let ty : true ≡ is_link y.node = sym c.if-is_link_in.true
    ∙ (c.is_link_in.ensures (shown (g.G.Gathered.held c.find_in.new.self).images us t) iq'
    ∙ ap (λ (v : Held). is_link (shown v.images us t).node) hs) in (
      y,
      a ∙ found-link gr st s (gr.entry s.current pt) y (entry_some ms us s.current x pt f.1) ty c.if-not-stays.true,
      iq,
      sym ty,
      i,
    )

pub push-requires : goal.push-requires
push-requires g c =
    let ms : List Image = (g.G.Gathered.held c.args.images.now).images in
    let us : List Mount = c.args.mounts.now in
    let s : Trail MountedNode = c.requires.trail.0 in
    let i : IsTrail ms us c.args.current.now c.args.ancestors.now.items s = c.requires.trail.1 in
    let f = c.in-Some.ensures.found s.current i.named in (
      omega (arith, c.requires.few),
      trail_room ms us c.args.current.now c.args.ancestors.now.items s f.0 c.args.component.now g.row.N
          c.requires.mounts c.requires.places i f.1,
    )

pub returns-clause-leads : goal.returns-clause-leads
returns-clause-leads g c = λ s i.
    let ms : List Image = (g.G.Gathered.held c.args.images.now).images in
    let us : List Mount = c.args.mounts.now in
    let gr : Namespace MountedNode = graft ms us in
    let pt : List ℕ = c.args.component.now in
    let st : Bool = c.args.stays in
    let d : true ≡ is_directory s.current.node =
    sym c.if-not-is_directory_in.false ∙ c.is_directory_in.ensures s.current i.named in
    let l : nat_lt 255 (length pt) ≡ false = lt_false 255 (length pt) (omega arith) in
    let p : bytes_eq pt dot ≡ false = sym c.is_dot.ensures.test ∙ c.if-is_dot.false in
    let q : bytes_eq pt dot_dot ≡ false = sym c.is_dot_dot.ensures.test ∙ c.if-is_dot_dot.false in
    let a : step gr s pt st ≡ found gr st s (gr.entry s.current pt) = step-named gr s pt st d l p q in
    let f = c.in-Some.ensures.found s.current i.named in
    let x : Node = f.0 in
    let t : MountedNode = record { image = s.current.image; node = x } in
    let pl : Location = record { image = c.args.current.now.image; node = c.in-Some.node } in
    let ip : NamesAt ms pl t = entry_named ms c.args.current.now s.current x c.in-Some.node.0 pt i.named f.1 f.2 in
    let hs : g.G.Gathered.held c.find_in.new.self ≡ g.G.Gathered.held c.args.images.now = c.find_in.ensures.stays in
    let P : Held → Type 0 = λ (v : Held). NamesAt v.images pl t in
    let Q : Held → Type 0 = λ (v : Held). NamesAt v.images c.shown_place-found.result (shown v.images us t) in
    let iq' : NamesAt (g.G.Gathered.held c.find_in.new.self).images c.shown_place-found.result
    (shown (g.G.Gathered.held c.find_in.new.self).images us t) =
    c.shown_place-found.ensures t (subst P (sym hs) ip) in
    let iq : NamesAt ms c.shown_place-found.result (shown ms us t) = subst Q hs iq' in
    let y : MountedNode = shown ms us t in
    let ly : c.is_link_in.result ≡ is_link y.node =
    c.is_link_in.ensures (shown (g.G.Gathered.held c.find_in.new.self).images us t) iq'
    ∙ ap (λ (v : Held). is_link (shown v.images us t).node) hs in
    let b : IsTrail ms us c.shown_place-found.result c.push.new.self.items (enter s y) =
    enter_trail ms us c.args.current.now c.shown_place-found.result c.args.ancestors.now.items c.push.new.self.items
    s x pl pt c.requires.mounts c.requires.shallow i f.1 ip iq c.push.ensures.items in
    elim c.else-is_link_in.branch [
      | else-is_link_in-via-then-is_link_in+else-not-stays w ↦ (
        enter s y,
        a ∙ found-last gr st s (gr.entry s.current pt) y
            (entry_some ms us s.current x pt f.1) w.if-not-stays.false,
        b,
      )
      | else-is_link_in-via-else-is_link_in w ↦ (
        enter s y,
        a ∙ found-file gr st s (gr.entry s.current pt) y (entry_some ms us s.current x pt f.1)
            (sym w.if-is_link_in.false ∙ ly),
        b,
      )
    ]
