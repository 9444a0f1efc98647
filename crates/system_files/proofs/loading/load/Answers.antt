use Rattle.std.proofs.Common.{rules, arith, ◌≡◌, ◌≤◌, length, subst, refl}
use Rattle.std.proofs.lemmas.List.{places}
use Rattle.formats.specs.Reach.{Reaches, IsSumRefused}
use Rattle.system_files.proofs.Fronts.{read_on, up_to, none_yet, whole, refusing, reach_least}
use Rattle.system_files.proofs.loading.load.Goals as goal

pub returns-then-is_sum_refused : goal.returns-then-is_sum_refused
returns-then-is_sum_refused g c =
    let a = g.R.Read.remaining c.args.reader.now in
    let none = c.new-bytes.result.items in
    let first = c.read_until.new.bytes.items in
    let second = c.read_until-2.new.bytes.items in
    let reach = c.reach_of-reach.result in
    let first_read = c.in_ok-read_until.ensures in
    let second_read = c.in_ok-read_until-2.ensures in
    let reaches : Reaches first reach = subst (λ l. Reaches l reach) c.deref.ensures.value c.reach_of-reach.ensures in
    let least : 76 ≤ reach = reach_least first reach reaches in
    let none_long : length none ≡ 0 = search (rules, places) in
    let first_long : length first ≤ c.min.result = search (rules, places, arith) in
    let begun = none_yet a none c.new-bytes.ensures.items in
    let read_once = read_on a a _ none first begun first_read.appends first_read.none_lost in
    let head = up_to a a none first 76 _ begun (search (rules, places)) (omega arith) first_read.bytes in
    let front = up_to a _ first second c.min.result _ read_once (search (rules, places)) first_long second_read.bytes in
    let summed : IsSumRefused second c.args.length =
    subst (λ l. IsSumRefused l c.args.length) c.deref-2.ensures.value (c.if-is_sum_refused.ensures.0 refl) in
    refusing a first second reach c.args.length c.min.result 5 12 head reaches front (search rules) summed refl refl

pub returns : goal.returns
returns g c =
    let a = g.R.Read.remaining c.args.reader.now in
    let none = c.new-bytes.result.items in
    let first = c.read_until.new.bytes.items in
    let second = c.read_until-2.new.bytes.items in
    let third = c.read_until-3.new.bytes.items in
    let reach = c.reach_of-reach.result in
    let first_read = c.in_ok-read_until.ensures in
    let second_read = c.in_ok-read_until-2.ensures in
    let third_read = c.in_ok-read_until-3.ensures in
    let reaches : Reaches first reach = subst (λ l. Reaches l reach) c.deref.ensures.value c.reach_of-reach.ensures in
    let least : 76 ≤ reach = reach_least first reach reaches in
    let none_long : length none ≡ 0 = search (rules, places) in
    let first_long : length first ≤ 76 = search (rules, places, arith) in
    let second_long : length second ≤ reach = search (rules, places, arith) in
    let begun = none_yet a none c.new-bytes.ensures.items in
    let read_once = read_on a a _ none first begun first_read.appends first_read.none_lost in
    let read_twice = read_on a _ _ first second read_once second_read.appends second_read.none_lost in
    let head = up_to a a none first 76 _ begun (search (rules, places)) (omega arith) first_read.bytes in
    let all = up_to a _ second third reach _ read_twice (search (rules, places)) second_long third_read.bytes in
    whole a first third reach c.args.length _ head reaches all (search (rules, places))
