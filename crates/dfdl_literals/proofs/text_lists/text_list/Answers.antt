use Rattle.std.proofs.Common.{◌≡◌, ℕ, List, false, sym, chars}
use Rattle.dfdl_literals.specs.Faults.{IsRefusalOf}
use Rattle.dfdl_literals.specs.Lists.{IsList}
use Rattle.dfdl_literals.specs.declared.LiteralFault.{LiteralFault}
use Rattle.dfdl_literals.specs.declared.LiteralFault.TheVariants.{Malformed, MatchesNothing, OutOfMemory}
use Rattle.dfdl_literals.proofs.TextListLaws.{none_reading, result_stands, result_reading}
use Rattle.dfdl_literals.proofs.text_lists.text_list.Goals as goal

no_list : (text : List ℕ) (fault : LiteralFault) (at : ℕ) → fault ≡ Malformed at → IsRefusalOf false text fault → IsList false text → ⊥
no_list text (Malformed at) place is refusal = refusal.1.no_text
no_list text MatchesNothing place is refusal = absurd refusal
no_list text OutOfMemory place is refusal = let no_it : ⊥ = cc in absurd no_it

pub returns-in-Ok-clause-stands_for : goal.returns-in-Ok-clause-stands_for
returns-in-Ok-clause-stands_for c =
    result_stands (chars c.args.text.now) c.in-Ok.literals c.in_texts.result c.in-Ok.ensures.found c.in_texts.ensures

pub returns-in-Ok-clause-reading : goal.returns-in-Ok-clause-reading
returns-in-Ok-clause-reading c =
    result_reading (chars c.args.text.now) c.in-Ok.literals c.in_texts.result c.in-Ok.ensures.found c.in_texts.ensures

pub returns-in-Err-Malformed-clause-reading : goal.returns-in-Err-Malformed-clause-reading
returns-in-Err-Malformed-clause-reading c =
    let fault = c.in-Err-Malformed in
    sym (none_reading (chars c.args.text.now) (no_list (chars c.args.text.now) fault.field-0 fault.field-0-0 fault.field-0-is fault.ensures.refused))
