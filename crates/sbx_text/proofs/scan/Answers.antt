use Rattle.std.proofs.Common.{◌≡◌, ◌+◌, ℕ, List, ◌∷◌, ◌++◌, [], Bor, length, ap, sym, ◌∙◌, append_assoc, arith}
use Rattle.sbx_text.specs.declared.Token.{Token}
use Rattle.sbx_text.specs.Tokens.{tokens_at, in_front}
use Rattle.sbx_text.proofs.Scans.{skips, emits, stops, refuses, is_done, fault_alone}
use Rattle.sbx_text.proofs.scan.Goals as goal
use Rattle.sbx_text.proofs.scan.Goals.{in-Skip, in-Emit+in_ok-push-in-Emit}

pub returns-in-Stop-clause-exact : goal.returns-in-Stop-clause-exact
returns-in-Stop-clause-exact c =
    stops (length c.args.line.now) c.loop.counter c.loop.start c.loop.found.items c.loop.rest.now
    (in_front c.args.found.now.items (tokens_at (length c.args.line.now) 0 c.args.line.now)) c.loop-test.true
    c.loop.invariant.read (sym c.in-Stop.ensures.value)

pub returns-in-Refuse-clause-exact : goal.returns-in-Refuse-clause-exact
returns-in-Refuse-clause-exact c =
    λ kept. fault_alone c.args.found.now.items (tokens_at (length c.args.line.now) 0 c.args.line.now) c.in-Refuse.fault
    (refuses (length c.args.line.now) c.loop.counter c.loop.start c.loop.found.items c.loop.rest.now
    (in_front c.args.found.now.items (tokens_at (length c.args.line.now) 0 c.args.line.now)) c.loop-test.true
    c.loop.invariant.read c.in-Refuse.fault (sym c.in-Refuse.ensures.value))

pub loop-preserved : goal.loop-preserved
loop-preserved c = elim c.match-front.branch [
  | in-Skip w ↦
      (let lengths : length c.match-front.rest.now ≡ length w.split_at.result.1.now = ap (λ (b : Bor (List ℕ)). length b.now) w.rest-is in record {
        places = omega arith;
        read = rw (w.found-is, w.start-is, w.rest-is, w.split_at.ensures.back)
            (skips (length c.args.line.now) c.loop.counter c.loop.start c.loop.found.items c.loop.rest.now
            (in_front c.args.found.now.items (tokens_at (length c.args.line.now) 0 c.args.line.now)) c.loop-test.true
            c.loop.invariant.read (sym w.in-Skip.ensures.value));
        others = rw w.found-is c.loop.invariant.others;
      })
  | in-Emit+in_ok-push-in-Emit w ↦
      (let lengths : length c.match-front.rest.now ≡ length w.split_at-in-Emit.result.1.now = ap (λ (b : Bor (List ℕ)). length b.now) w.rest-is in
      let token : Token = record { kind = w.in-Emit.kind; start = c.loop.start; stop = c.loop.start + w.in-Emit.len } in record {
        places = omega arith;
        read = rw (w.found-is, w.start-is, w.rest-is, w.split_at-in-Emit.ensures.back, w.in_ok-push-in-Emit.ensures.items)
            (emits (length c.args.line.now) c.loop.counter c.loop.start c.loop.found.items c.loop.rest.now
            (in_front c.args.found.now.items (tokens_at (length c.args.line.now) 0 c.args.line.now)) c.loop-test.true
            c.loop.invariant.read w.in-Emit.kind w.in-Emit.len (sym w.in-Emit.ensures.value));
        others = rw (w.found-is, w.in_ok-push-in-Emit.ensures.items) (
          c.loop.invariant.others.0 ++ token ∷ [],
          ap (λ (ts : List Token). ts ++ token ∷ []) c.loop.invariant.others.1
              ∙ append_assoc c.args.found.now.items c.loop.invariant.others.0 (token ∷ []),
        );
      })
]

pub returns-clause-exact : goal.returns-clause-exact
returns-clause-exact c =
    is_done (length c.args.line.now) c.loop.counter c.loop.start c.loop.found.items c.loop.rest.now
    (in_front c.args.found.now.items (tokens_at (length c.args.line.now) 0 c.args.line.now)) c.loop-test.false c.loop.invariant.read
