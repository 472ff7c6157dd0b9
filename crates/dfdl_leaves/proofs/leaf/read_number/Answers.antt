use Rattle.std.proofs.Common.{◌≡◌, ℕ, ◌+◌, ◌-◌, ◌/◌, ◌<◌, ◌≤◌, length, subst, sym, arith}
use Rattle.dfdl_bits.specs.Window.{end_of, seen_at}
use Rattle.dfdl_looks.specs.Asks.{Ask, ask}
use Rattle.dfdl_looks.specs.Tallies.{nothing}
use Rattle.dfdl_grammar.specs.Leaves.{Find, bits_of, bytes_spanned}
use Rattle.dfdl_leaves.specs.Readings.{Answers}
use Rattle.dfdl_leaves.specs.Views.{primitive_of}
use Rattle.dfdl_leaves.proofs.Leaves.{cut_read, none-piece, none-within, number-field, plain-piece, plain-within, run-within, whole_read}
use Rattle.dfdl_leaves.proofs.leaf.read_number.Goals as goal

pub returns-then-run-count-clause-answers : goal.returns-then-run-count-clause-answers
returns-then-run-count-clause-answers g c opened stop scratch =
    let primitive = primitive_of c.args.leaf in
    let look = seen_at c.args.sight.now in
    let looks : ℕ = c.cut.new.steps - c.args.steps.now in
    let fewer : length c.run-run.result.now < bytes_spanned c.args.bit (bits_of primitive) = omega arith in
    subst (λ (p : Ask Find). Answers (ask look p nothing) scratch c.cut.result looks)
    (sym (number-field opened primitive c.args.bit stop c.requires.number))
    (cut_read look primitive c.args.bit c.run-run.result.now c.run-run.ensures.seen fewer c.cut.result c.cut.ensures.cut looks (omega arith) scratch)

pub returns-clause-answers : goal.returns-clause-answers
returns-clause-answers g c opened stop scratch =
    let primitive = primitive_of c.args.leaf in
    let look = seen_at c.args.sight.now in
    let looks : ℕ = c.run-run.new.steps - c.args.steps.now in
    let all : bytes_spanned c.args.bit (bits_of primitive) ≡ length c.run-run.result.now = omega arith in
    let some : 1 ≤ bits_of primitive = omega (arith, c.number_bits.ensures.some) in
    subst (λ (p : Ask Find). Answers (ask look p nothing) scratch (record { found = c.found_in-found.result; far = c.args.bit / 8 + c.spanned-count.result }) looks)
    (sym (number-field opened primitive c.args.bit stop c.requires.number))
    (whole_read look primitive c.args.bit c.run-run.result.now c.run-run.ensures.seen some all scratch
    c.found_in-found.result (c.found_in-found.ensures.found scratch) (c.args.bit / 8 + c.spanned-count.result) (omega arith) looks (omega arith))

pub returns-then-run-count-clause-within : goal.returns-then-run-count-clause-within
returns-then-run-count-clause-within g c = none-within c.cut.result.found _ c.cut.ensures.none

pub returns-then-run-count-clause-piece : goal.returns-then-run-count-clause-piece
returns-then-run-count-clause-piece g c scratch = none-piece c.cut.result.found scratch c.cut.ensures.none

pub returns-clause-within : goal.returns-clause-within
returns-clause-within g c =
    let run = c.run-run.result.now in
    let first : ℕ = c.args.bit / 8 in
    let some = c.number_bits.ensures.some in
    let there : first + length run ≤ end_of c.args.sight.now =
    run-within c.args.sight.now first run c.requires.base (omega arith) c.run-run.ensures.seen in
    plain-within c.found_in-found.result _ _ c.found_in-found.ensures.plain (omega arith)

pub returns-clause-piece : goal.returns-clause-piece
returns-clause-piece g c scratch = plain-piece c.found_in-found.result _ scratch c.found_in-found.ensures.plain
