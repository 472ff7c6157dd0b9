use Rattle.std.proofs.Common.{ℕ, ◌-◌, ◌/◌, List, ap, subst, map}
use Rattle.dfdl_bits.specs.Window.{seen_at}
use Rattle.dfdl_looks.specs.Asks.{ask}
use Rattle.dfdl_looks.specs.Tallies.{nothing}
use Rattle.dfdl_delims.specs.Deciding.{goes_on}
use Rattle.dfdl_delims.specs.Lists.{Opened}
use Rattle.dfdl_delims.specs.Longest.{Answers, longest_at}
use Rattle.dfdl_delims.proofs.Deciders.{decided}
use Rattle.dfdl_grammar.specs.Delimiters.{opened}
use Rattle.dfdl_grammar.specs.States.{State}
use Rattle.dfdl_parse.specs.Searches.{among}
use Rattle.dfdl_parse.specs.Shown.{state_of}
use Rattle.dfdl_parse.proofs.Seeks.{ends-within, names-open}
use Rattle.dfdl_parse.proofs.parser.Parser.glance_at_text.Goals as goal

pub returns-clause-answers : goal.returns-clause-answers
returns-clause-answers g c =
    let s : State = state_of c.args.self.now in
    let delimiters = c.args.terms.now.delimiters in
    let lists : List Opened = among delimiters c.args.sought s in
    subst (λ (k : ℕ). Answers (ask (seen_at c.args.sight.now) (longest_at (goes_on lists) lists c.args.self.now.stop k) nothing)
    c.in_ok-glance.glance (c.longest-answer.new.steps - c.args.steps.now))
    (ap (λ (n : ℕ). n / 8) c.requires.bit)
    (c.in_ok-glance.ensures.answers lists (goes_on lists)
    (record {
      all = map opened delimiters;
      holds = c.requires.registered.holds;
      named = names-open delimiters c.args.sought s c.first_open-from.result c.put_behind.new.lists c.from.result.now c.requires.named
          c.requires.registered.within.open_lists c.first_open-from.ensures c.in_ok-put_behind.ensures c.from.ensures;
    }) (decided lists))

pub returns-clause-within : goal.returns-clause-within
returns-clause-within g c =
    let s : State = state_of c.args.self.now in
    let lists : List Opened = among c.args.terms.now.delimiters c.args.sought s in
    ends-within c.args.sight.now lists c.args.self.now.at c.args.bit c.args.self.now.stop c.in_ok-glance.glance.found c.requires.bit c.requires.base
    c.requires.at (returns-clause-answers g c).reached
