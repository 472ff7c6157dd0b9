use Rattle.std.proofs.Common.{ℕ, ◌<◌, List, length, map, ap, ◌∙◌}
use Rattle.std.specs.Prelude.{slice_get}
use Rattle.std.proofs.lemmas.List.Elements.{All-drop}
use Rattle.dfdl_grammar.specs.Delimiters.{lists_of, markup, opened}
use Rattle.dfdl_grammar.specs.States.{State}
use Rattle.dfdl_parse.specs.Shown.{state_of}
use Rattle.dfdl_parse.proofs.Seeks.{lists-named}
use Rattle.dfdl_parse.proofs.parser.Parser.glance.Goals as goal

pub returns-clause-answers : goal.returns-clause-answers
returns-clause-answers g c delimiters is_open =
    let s : State = state_of c.args.self.now in
    c.in_ok-glance.ensures.answers (lists_of delimiters (markup s))
    (record {
      all = map opened delimiters;
      holds = is_open.0;
      named = ap (λ (ns : List ℕ). map (slice_get (map opened delimiters)) ns) c.from.ensures
          ∙ lists-named delimiters (markup s) (All-drop (λ n. n < length delimiters) s.hidden s.lists is_open.1);
    })
