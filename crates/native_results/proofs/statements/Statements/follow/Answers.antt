use Rattle.native_results.specs.Bench.{bench_of}
use Rattle.native_results.specs.Recipes.{prepared, with_carry_in, with_codes, with_high, with_result, with_tags}
use Rattle.native_results.proofs.Making.{chain, on_ok}
use Rattle.native_results.proofs.statements.Statements.follow.Goals as goal

pub returns : goal.returns
returns c =
    let r = c.args.recipe in
    let old = c.args.self.now.list.items in
    let a = c.prepare.new.self.list.items in
    let b = c.results.new.self.list.items in
    let d = c.carries.new.self.list.items in
    let e = c.highs.new.self.list.items in
    let f = c.codes.new.self.list.items in
    let on_b = chain (λ v. prepared r.operands (bench_of v)) (with_result r.operator) old a b c.in_ok-prepare.ensures c.in_ok-results.ensures in
    let on_d = chain (λ v. with_result r.operator (prepared r.operands (bench_of v))) (with_carry_in r.operator r.carry) old b d on_b c.in_ok-carries.ensures in
    let on_e = chain (λ v. with_carry_in r.operator r.carry (with_result r.operator (prepared r.operands (bench_of v)))) (with_high r.high) old d e on_d c.in_ok-highs.ensures in
    let on_f = chain (λ v. with_high r.high (with_carry_in r.operator r.carry (with_result r.operator (prepared r.operands (bench_of v))))) (with_codes r.codes) old e f on_e c.in_ok-codes.ensures in
    on_ok c.tags.result (λ _ last. chain (λ v. with_codes r.codes (with_high r.high (with_carry_in r.operator r.carry (with_result r.operator (prepared r.operands (bench_of v)))))) (with_tags r.tags)
    old f c.tags.new.self.list.items on_f last) c.tags.ensures
