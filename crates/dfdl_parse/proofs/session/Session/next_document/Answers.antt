use Rattle.std.proofs.Common.{refl}
use Rattle.dfdl_parse.proofs.Pieces.{done_base, done_end, done_marks, done_stack, next_sound, next_stands}
use Rattle.dfdl_parse.proofs.session.Session.next_document.Goals as goal

pub drop_before-requires-clause-base : goal.drop_before-requires-clause-base
drop_before-requires-clause-base c = done_base c.args.self.now c.requires.sound c.requires.done

pub drop_before-requires-clause-end : goal.drop_before-requires-clause-end
drop_before-requires-clause-end c = done_end c.args.self.now c.requires.sound c.requires.done

pub begin-requires-clause-none : goal.begin-requires-clause-none
begin-requires-clause-none c =
    (done_stack c.args.self.now c.requires.sound c.requires.done, done_marks c.args.self.now c.requires.sound c.requires.done)

pub returns-clause-sound : goal.returns-clause-sound
returns-clause-sound c =
    next_sound c.args.self.now _ c.requires.done c.requires.sound refl c.drop_before.ensures refl refl c.in_default.ensures.focus c.in_default.ensures.stack c.in_default.ensures.front
    c.in_default.ensures.far c.in_default.ensures.most c.in_default.ensures.registered refl

pub returns-clause-stands : goal.returns-clause-stands
returns-clause-stands c stream taken =
    next_stands c.args.self.now _ c.requires.done c.requires.sound refl c.drop_before.ensures refl refl c.in_default.ensures.focus c.in_default.ensures.stack c.in_default.ensures.front
    c.in_default.ensures.far stream taken
