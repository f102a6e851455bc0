use Rattle.std.proofs.Common.{ℕ, List, length, refl, sym, subst, ◌∙◌, arith, rules}
use Rattle.sbx_session.specs.Steps.{EndsAs, IsStep}
use Rattle.sbx_session.specs.declared.session.Session.{Session}
use Rattle.sbx_session.specs.declared.session.Stand.{Stand}
use Rattle.sbx_session.specs.declared.session.Step.{Step}
use Rattle.sbx_session.specs.declared.session.Stand.TheVariants.{Full, Paused, Wants}
use Rattle.sbx_session.proofs.Counts.{less_todo}
use Rattle.sbx_session.proofs.Stepping.{behind_more, ended_never_pauses, ended_stands, full_goes_on, full_runs_on, lost, nothing_yet, paused_goes_on, spends_none, spends_same, spends_told, stepped, waiting_goes_on, waiting_runs_on}
use Rattle.sbx_session.proofs.session.Session.step.Goals as goal

pub rounds-init : goal.rounds-init
rounds-init g c =
    let least = c.min-left.ensures in record {
      goes = λ parts so_far all goes. nothing_yet g.row.N parts so_far all c.args.self.now goes;
      read = omega arith;
      written = omega arith;
      behind = refl;
      left = omega (arith, least);
      met = λ no. refl;
      asks = λ yes. search rules;
      spends = spends_none g.row.N c.args.self.now c.args.most c.min-left.result (λ few. omega (arith, least, few)) (λ many. omega (arith, least, many));
    }

pub returns-in_default : goal.returns-in_default
returns-in_default g c =
    let n = g.row.N in
    let so = c.rounds.invariant in
    let input = c.args.input.now in
    let before = c.args.room.now in
    let kept = c.in_default.ensures.kept refl in
    let step : Step = record { read = c.rounds.read; written = c.rounds.written; stand = Full } in
    subst (λ (s : Session n). IsStep n c.args.self.now s c.args.most input c.args.last before c.deliver.new.room step) (sym kept.0)
    (subst (λ (r : List ℕ). IsStep n c.args.self.now c.rounds.self c.args.most input c.args.last before r step) (sym kept.1)
    (stepped n c.args.self.now c.rounds.self c.args.most c.rounds.left input c.args.last before c.rounds.room step so.read so.written so.behind so.goes so.met
    (λ word is. absurd (full_goes_on word is)) (c.in_default.ensures.full refl) so.spends (λ is. absurd (full_runs_on is))))

pub returns-in_default-feed : goal.returns-in_default-feed
returns-in_default-feed g c =
    let n = g.row.N in
    let so = c.rounds.invariant in
    let input = c.args.input.now in
    let before = c.args.room.now in
    let after = c.deliver.new.room in
    let old = c.args.self.now in
    let new = c.deliver.new.self in
    let same = c.in-Some.ensures.same in
    let step : Step = record { read = c.rounds.read; written = c.in-Some.behind; stand = Wants } in
    subst (λ (s : Session n). IsStep n old s c.args.most input c.args.last before after step) (sym (c.in_default-feed.ensures.kept refl))
    (stepped n old new c.args.most c.rounds.left input c.args.last before after step so.read c.in-Some.ensures.within
    (c.in-Some.ensures.behind ∙ behind_more c.rounds.written c.in-Some.behind c.rounds.room before c.in-Some.ensures.more so.behind)
    (λ parts so_far all goes. c.in-Some.ensures.goes parts _ all (so.goes parts so_far all goes))
    (λ no. c.in-Some.ensures.met ∙ so.met no)
    (λ word is. absurd (waiting_goes_on word is)) (c.in_default-feed.ensures.wants refl)
    (spends_same n old c.rounds.self new c.args.most c.rounds.left same.1 same.0 so.spends) (λ is. absurd (waiting_runs_on is)))

pub returns-in-Some-ended : goal.returns-in-Some-ended
returns-in-Some-ended g c =
    let n = g.row.N in
    let so = c.rounds.invariant in
    let input = c.args.input.now in
    let before = c.args.room.now in
    let after = c.deliver.new.room in
    let old = c.args.self.now in
    let delivered = c.deliver.new.self in
    let new = c.feed.new.self in
    let same = c.in-Some.ensures.same in
    let fed = c.in-Some-feed.ensures.same in
    let step : Step = record { read = c.in-Some-feed.next; written = c.in-Some.behind; stand = c.in-Some-ended.stand } in
    let now = new.board.state in
    stepped n old new c.args.most c.rounds.left input c.args.last before after step c.in-Some-feed.ensures.within c.in-Some.ensures.within
    (c.in-Some.ensures.behind ∙ behind_more c.rounds.written c.in-Some.behind c.rounds.room before c.in-Some.ensures.more so.behind)
    (λ parts so_far all goes. c.in-Some-feed.ensures.goes parts so_far _ (c.in-Some.ensures.goes parts _ all (so.goes parts so_far all goes)))
    (λ no. c.in-Some-feed.ensures.met no ∙ c.in-Some.ensures.met ∙ so.met no)
    (λ word is. (subst (λ (s : Stand). EndsAs n now s) is c.in-Some-ended.ensures.ends, c.in-Some-feed.ensures.served.1))
    (ended_stands n new c.in-Some-ended.stand input c.args.last after step c.in-Some-ended.ensures.ends)
    (spends_same n old delivered new c.args.most c.rounds.left fed.1 fed.0
    (spends_same n old c.rounds.self delivered c.args.most c.rounds.left same.1 same.0 so.spends))
    (λ is. absurd (ended_never_pauses n now c.in-Some-ended.stand c.in-Some-ended.ensures.ends is))

pub returns-in_default-go : goal.returns-in_default-go
returns-in_default-go g c =
    let n = g.row.N in
    let so = c.rounds.invariant in
    let old = c.args.self.now in
    let delivered = c.deliver.new.self in
    let fed = c.feed.new.self in
    let same = c.in-Some.ensures.same in
    let same_fed = c.in-Some-feed.ensures.same in
    lost n old fed c.go.new.self c.args.most c.rounds.left c.args.input.now c.args.last c.args.room.now c.deliver.new.room
    c.in-Some-feed.next c.in-Some.behind c.in-Some-feed.ensures.within c.in-Some.ensures.within
    (c.in-Some.ensures.behind ∙ behind_more c.rounds.written c.in-Some.behind c.rounds.room c.args.room.now c.in-Some.ensures.more so.behind)
    (λ parts so_far all goes. c.in-Some-feed.ensures.goes parts so_far _ (c.in-Some.ensures.goes parts _ all (so.goes parts so_far all goes)))
    c.in_default-go.ensures.met
    (λ no. c.in-Some-feed.ensures.met no ∙ c.in-Some.ensures.met ∙ so.met no)
    (spends_same n old delivered fed c.args.most c.rounds.left same_fed.1 same_fed.0
    (spends_same n old c.rounds.self delivered c.args.most c.rounds.left same.1 same.0 so.spends))
    c.in_default-go.ensures.turns

pub rounds-preserved : goal.rounds-preserved
rounds-preserved g c =
    let n = g.row.N in
    let so = c.rounds.invariant in
    let old = c.args.self.now in
    let delivered = c.deliver.new.self in
    let fed = c.feed.new.self in
    let same = c.in-Some.ensures.same in
    let same_fed = c.in-Some-feed.ensures.same in
    let left_deliver = same.0 in
    let left_feed = same_fed.0 in
    let had = so.left in
    let after_go = c.in-Some-go.ensures.left in
    let few = c.in-Some-go.ensures.within in record {
      goes = λ parts so_far all goes.
          c.in-Some-go.ensures.goes parts _ _ (c.in-Some-feed.ensures.goes parts so_far _ (c.in-Some.ensures.goes parts _ all (so.goes parts so_far all goes)));
      read = c.in-Some-feed.ensures.within;
      written = c.in-Some.ensures.within;
      behind = c.in-Some.ensures.behind ∙ behind_more c.rounds.written c.in-Some.behind c.rounds.room c.args.room.now c.in-Some.ensures.more so.behind;
      left = omega (arith, after_go, left_feed, left_deliver, had);
      met = λ no. c.in-Some-go.ensures.met ∙ c.in-Some-feed.ensures.met no ∙ c.in-Some.ensures.met ∙ so.met no;
      asks = c.in-Some-go.ensures.lacks;
      spends = spends_told n old fed c.go.new.self c.args.most c.rounds.left c.in-Some-go.slice.turns c.in-Some-go.ensures.counted few (omega (arith, left_feed, left_deliver, had)) after_go
          (spends_same n old delivered fed c.args.most c.rounds.left same_fed.1 same_fed.0
          (spends_same n old c.rounds.self delivered c.args.most c.rounds.left same.1 same.0 so.spends));
    }

pub rounds-smaller : goal.rounds-smaller
rounds-smaller g c =
    less_todo c.rounds.lacks c.in-Some-go.slice.lacks c.rounds.left c.in-Some-go.slice.turns (length c.args.input.now) c.rounds.read c.in-Some-feed.next
    c.in-Some-go.ensures.within (search rules) c.in-Some-feed.ensures.more c.in-Some-feed.ensures.within c.in-Some-go.ensures.onward
    (λ lacks none. c.in-Some-go.ensures.known (c.in-Some-feed.ensures.told lacks none))

pub returns-then-left-eq0 : goal.returns-then-left-eq0
returns-then-left-eq0 g c =
    let n = g.row.N in
    let so = c.rounds.invariant in
    let before = c.args.room.now in
    let old = c.args.self.now in
    let delivered = c.deliver.new.self in
    let fed = c.feed.new.self in
    let same = c.in-Some.ensures.same in
    let same_fed = c.in-Some-feed.ensures.same in
    stepped n old fed c.args.most c.rounds.left c.args.input.now c.args.last before c.deliver.new.room
    (record { read = c.in-Some-feed.next; written = c.in-Some.behind; stand = Paused }) c.in-Some-feed.ensures.within c.in-Some.ensures.within
    (c.in-Some.ensures.behind ∙ behind_more c.rounds.written c.in-Some.behind c.rounds.room before c.in-Some.ensures.more so.behind)
    (λ parts so_far all goes. c.in-Some-feed.ensures.goes parts so_far _ (c.in-Some.ensures.goes parts _ all (so.goes parts so_far all goes)))
    (λ no. c.in-Some-feed.ensures.met no ∙ c.in-Some.ensures.met ∙ so.met no)
    (λ word is. absurd (paused_goes_on word is)) tt
    (spends_same n old delivered fed c.args.most c.rounds.left same_fed.1 same_fed.0
    (spends_same n old c.rounds.self delivered c.args.most c.rounds.left same.1 same.0 so.spends))
    (λ is. (search rules, c.in_default-ended.ensures.going refl))
