use Rattle.std.proofs.lemmas.Str.{is_utf8-from_IsUtf8}
use Rattle.dfdl_parse.proofs.Statings.{text-given}
use Rattle.dfdl_parse.proofs.parser.Parser.give_str.Goals as goal

pub returns : goal.returns
returns c limits most =
    text-given limits c.args.text.now c.args.self.now c.give_text.new.self (is_utf8-from_IsUtf8 c.args.text.now c.utf8.text) most c.give_text.ensures
