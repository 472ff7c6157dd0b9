use Rattle.std.proofs.Common.{ap, ◌∙◌, get_or, Option}
use denote.Ref.{Bor}
use Rattle.dfdl_scope.specs.Scoping.{nearer, nothing}
use Rattle.dfdl_scope.specs.Shown.{given, given_if, format_given}
use Rattle.dfdl_scope.specs.declared.properties.Properties.{Properties}
use Rattle.dfdl_scope.specs.declared.format.Format.{Format}
use Rattle.dfdl_properties.proofs.Table.{next-fits, step-some, step-none}
use Rattle.dfdl_properties.proofs.joined.format_at.Goals as goal
use Rattle.dfdl_properties.proofs.joined.format_at.Goals.{in-Some, in-None}

pub bounds-formats-next : goal.bounds-formats-next
bounds-formats-next c = next-fits c.args.refers.now c.args.format c.in-Some.next _ c.requires.refers c.in-Some.is c.requires.formats

pub returns : goal.returns
returns c = elim c.match-refers-format.branch [
  | in-Some w ↦ λ q. c.in_ok-made.ensures q
      ∙ (ap (λ (next : Option (Bor Format)). nearer (given c.index-own-format.result) (given_if next) q) w.next-is
      ∙ (ap (λ (p : Properties). nearer (given p) (format_given w.index-formats-next.result) q) c.index-own-format.is
      ∙ (ap (λ (f : Format). nearer (given (get_or c.args.own.now c.args.format c.index-own-format.result)) (format_given f) q) w.index-formats-next.is
      ∙ step-some c.args.own.now c.args.formats.now c.args.refers.now c.args.format w.in-Some.next c.index-own-format.result w.index-formats-next.result q
      c.requires.own c.requires.refers (next-fits c.args.refers.now c.args.format w.in-Some.next _ c.requires.refers w.in-Some.is c.requires.formats) w.in-Some.is)))
  | in-None w ↦ λ q. c.in_ok-made.ensures q
      ∙ (ap (λ (next : Option (Bor Format)). nearer (given c.index-own-format.result) (given_if next) q) w.next-is
      ∙ (ap (λ (p : Properties). nearer (given p) nothing q) c.index-own-format.is
      ∙ step-none c.args.own.now c.args.formats.now c.args.refers.now c.args.format c.index-own-format.result q c.requires.own c.requires.refers w.in-None.is))
]
