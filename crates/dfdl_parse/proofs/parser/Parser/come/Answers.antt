use Rattle.std.proofs.Common.{OnOk, subst, sym}
use Rattle.dfdl_separators.specs.declared.moves.SlotMove.{SlotMove}
use Rattle.dfdl_parse.specs.declared.frame.Coming.{Coming}
use Rattle.dfdl_parse.specs.Shown.{Becomes, state_of}
use Rattle.dfdl_parse.specs.Slots.{comes, sequence_ends}
use Rattle.dfdl_parse.proofs.parser.Parser.come.Goals as goal

pub returns-in-Past-clause-becomes : goal.returns-in-Past-clause-becomes
returns-in-Past-clause-becomes c held cost =
    let old = c.args.self.now in
    subst (λ (coming : Coming). Becomes old (comes cost held c.args.initiated c.args.last coming old.stack (state_of old)).machine c.end_sequence.new.self)
    (sym c.in-Past.is)
    (subst (λ (move : SlotMove). Becomes old (sequence_ends cost held move c.args.last old.stack (state_of old)).machine c.end_sequence.new.self)
    c.ending.ensures (c.end_sequence.ensures.becomes held cost))

pub returns-in-Seeks-clause-becomes : goal.returns-in-Seeks-clause-becomes
returns-in-Seeks-clause-becomes c held cost =
    let old = c.args.self.now in
    subst (λ (coming : Coming). OnOk c.seek_before.result
    (Becomes old (comes cost held c.args.initiated c.args.last coming old.stack (state_of old)).machine c.seek_before.new.self))
    (sym c.in-Seeks.is) (c.seek_before.ensures.becomes held cost c.args.last)
