-- What statements make of the parser.
use Rattle.std.proofs.Common.{length, get_or, ltb, ◌≡◌, ℕ, suc, ◌+◌, ◌-◌, ◌<◌, ◌≤◌, refl, Bool, true, false, cond, Ok, List, [], ◌∷◌, Option, Some, ap, sym, subst, ◌∙◌, arith}
use Rattle.std.proofs.lemmas.Option.{slice_get-get_or}
use Rattle.std.proofs.lemmas.Bool.Decides.{nat_tests}
use Rattle.std.specs.Prelude.{slice_get}
use Rattle.std.specs.Str.{is_utf8}
use Rattle.dfdl_report.specs.declared.cause.ParseCause.TheVariants.{ExpressionFault}
use Rattle.dfdl_value.specs.declared.value.Value.TheVariants as value
use Rattle.dfdl_region.specs.declared.node.Content.TheVariants as content
use Rattle.dfdl_grammar.specs.Leaves.{hold}
use Rattle.dfdl_bits.specs.Window.{Held}
use Rattle.dfdl_paths.specs.declared.place.Start.{Start}
use Rattle.dfdl_expression_eval.specs.Asks.{gives}
use Rattle.dfdl_expression_eval.specs.Meanings.{meaning}
use Rattle.dfdl_expression_eval.specs.Runs.{left_by}
use Rattle.dfdl_expressions.specs.declared.node.Node.{Node}
use Rattle.dfdl_surroundings.specs.Answers.{answer_in, around, element_of, read_in}
use Rattle.dfdl_surroundings.specs.Around.{Around, Seen}
use Rattle.dfdl_vars.specs.Kept.{Kept}
use Rattle.dfdl_terms.specs.Arrays.{item_marks}
use Rattle.dfdl_paths.specs.declared.place.Start.TheVariants.{At, Inside}
use Rattle.dfdl_terms.specs.declared.statement.Calculation.{Calculation as CalculationOf}
use Rattle.dfdl_terms.specs.declared.statement.ExpressionTest.{ExpressionTest}
use Rattle.dfdl_terms.specs.declared.statement.Setting.{Setting as SettingOf}
use Rattle.dfdl_terms.specs.declared.statement.Statement.{Statement}
use Rattle.dfdl_terms.specs.declared.statement.Statement.TheVariants.{Expression, Setting, Calculation}
use Rattle.dfdl_terms.specs.declared.statement.Statements.{Statements}
use Rattle.dfdl_terms.specs.Rows.{Table}
use Rattle.dfdl_looks.specs.Tallies.{Tally}
use Rattle.dfdl_grammar.specs.declared.end.End.{End}
use Rattle.dfdl_grammar.specs.declared.end.End.TheVariants.{Done, Failed, Stopped}
use Rattle.dfdl_grammar.specs.declared.limits.Limits.{Limits}
use Rattle.dfdl_grammar.specs.Outcomes.{Outcome, ended, follow, then_do}
use Rattle.dfdl_grammar.specs.States.{State}
use Rattle.dfdl_grammar.specs.Spans.{vacant}
use Rattle.dfdl_grammar.specs.Statements.{around_at, calculated, evaluated, reconsidered, reconsidered_from, stated, stated_from, told_at, with_reads}
use Rattle.dfdl_parse.specs.declared.frame.Focus.{Focus}
use Rattle.dfdl_parse.specs.declared.frame.Focus.TheVariants.{Leave}
use Rattle.dfdl_parse.specs.declared.parser.Parser.{Parser}
use Rattle.dfdl_parse.specs.Moves.{Machine}
use Rattle.dfdl_parse.specs.Shown.{Becomes, Comes, HasSameLimits, limits_of, shown, state_of}
use Rattle.dfdl_parse.specs.Stating.{behind_done, comes_to, is_done, is_well, make_statement, reconsider}
use Rattle.dfdl_parse.specs.Steps.{IsFree, Moved}
use Rattle.dfdl_parse.proofs.Stated.{all-again as again-comes, behind-comes, stated-comes}

-- an outcome that is come to in a step without a look
pub comes-moved : (old new : Parser) (held : Held) (cost : Tally) (o : Outcome) → IsFree cost → Comes old o new
    → Moved (comes_to cost held o old.stack) false old.far new held 0
comes-moved old new held cost o free comes =
    let none = free.1 in
    let far = comes.far in
    record {
      machine = λ i. record { focus = comes.focus i; stack = comes.stack i; state = comes.state i };
      held = refl;
      waits = refl;
      looks = sym free.0;
      far = λ going. omega arith;
      stays = λ waits. comes.far;
    }

-- a machine that has come to an outcome
pub becomes-comes : (old new : Parser) (o : Outcome) → Becomes old (record { focus = Leave o.end; stack = old.stack; state = o.state }) new → Comes old o new
becomes-comes old new o becomes = record {
  focus = ap (λ (m : Machine). m.focus) becomes.machine;
  stack = ap (λ (m : Machine). m.stack) becomes.machine;
  state = ap (λ (m : Machine). m.state) becomes.machine;
  far = becomes.far;
  limits = becomes.limits;
}

pub limits-twice : (a b c : Parser) → HasSameLimits a b → HasSameLimits b c → HasSameLimits a c
limits-twice a b c one two = (two.0 ∙ one.0, (two.1.0 ∙ one.1.0, (two.1.1.0 ∙ one.1.1.0, two.1.1.1 ∙ one.1.1.1)))

-- two outcomes come to the same
pub record Alike (one other : Outcome) : Type 0 where
  pub end : one.end ≡ other.end
  pub state : one.state ≡ other.state

pub alike-here : (o : Outcome) → Alike o o
alike-here o = record { end = refl; state = refl }

alike-then : (a b c : Outcome) → Alike a b → Alike b c → Alike a c
alike-then a b c one two = record { end = one.end ∙ two.end; state = one.state ∙ two.state }

alike-back : (a b : Outcome) → Alike a b → Alike b a
alike-back a b one = record { end = sym one.end; state = sym one.state }

well-is : (end : End) → is_well end ≡ true → end ≡ Done
well-is Done well = refl
well-is (Failed cause bit) well = absurd (cc)
well-is (Stopped cause quantity) well = absurd (cc)

-- what follows an outcome, and what doesn't
follow-goes : (end : End) (o : Outcome) (next : State → Outcome) → is_well end ≡ true → Alike (follow end o next) (next o.state)
follow-goes Done o next well = record { end = refl; state = refl }
follow-goes (Failed cause bit) o next well = absurd (cc)
follow-goes (Stopped cause quantity) o next well = absurd (cc)

follow-ends : (end : End) (o : Outcome) (next : State → Outcome) → is_well end ≡ false → Alike (follow end o next) o
follow-ends Done o next well = absurd (cc)
follow-ends (Failed cause bit) o next well = record { end = refl; state = refl }
follow-ends (Stopped cause quantity) o next well = record { end = refl; state = refl }

-- the parser comes to an outcome that comes to the same
comes-alike : (old new : Parser) (one other : Outcome) → Alike one other → Comes old one new → Comes old other new
comes-alike old new one other alike comes = record {
  focus = comes.focus ∙ ap (λ (e : End). Leave e) alike.end;
  stack = comes.stack;
  state = comes.state ∙ alike.state;
  far = comes.far;
  limits = comes.limits;
}

-- what is left of some statements comes to what all of them come to
pub record AreStated (table : Table) (start : Start) (first number last : ℕ) (old now : Parser) : Type 0 where
  pub stack : now.stack ≡ old.stack
  pub far : now.far ≡ old.far
  pub limits : HasSameLimits old now
  pub goes : (limits : Limits) → limits.text ≡ old.text.most
      → Alike (stated_from limits table start number (last - number) (state_of now)) (stated_from limits table start first (last - first) (state_of old))

pub none-stated : (table : Table) (start : Start) (first last : ℕ) (old : Parser) → AreStated table start first first last old old
none-stated table start first last old = record {
  stack = refl;
  far = refl;
  limits = (refl, (refl, (refl, refl)));
  goes = λ limits text. alike-here (stated_from limits table start first (last - first) (state_of old));
}

module _ (table : Table) (start : Start) (first number last : ℕ) (old now new : Parser) (less : number < last) (are : AreStated table start first number last old now)
    (comes : (limits : Limits) → limits.text ≡ now.text.most → Comes now (stated limits table start number (slice_get table.statements number) (state_of now)) new) where
  abbrev stated-one : Limits → Outcome
  stated-one limits = stated limits table start number (slice_get table.statements number) (state_of now)

  abbrev stated-rest : Limits → State → Outcome
  stated-rest limits = stated_from limits table start (number + 1) (last - (number + 1))

  stated-whole : (limits : Limits) → limits.text ≡ old.text.most
      → Alike (then_do (stated-one limits) (stated-rest limits)) (stated_from limits table start first (last - first) (state_of old))
  unfolding stated_from
  stated-whole limits text =
      let count : last - number ≡ suc (last - (number + 1)) = omega arith in
      subst (λ (n : ℕ). Alike (stated_from limits table start number n (state_of now)) (stated_from limits table start first (last - first) (state_of old))) count
      (are.goes limits text)

  stated-came : (limits : Limits) → limits.text ≡ old.text.most → Comes now (stated-one limits) new
  stated-came limits text = comes limits (text ∙ sym are.limits.1.0)

  stated-well : (limits : Limits) (is : Bool) → limits.text ≡ old.text.most → is_done new.focus ≡ is → is_well (stated-one limits).end ≡ is
  stated-well limits is text told = sym (ap is_done (stated-came limits text).focus) ∙ told

  abbrev any_limits : Limits
  any_limits = record { window = 0; nodes = 0; text = old.text.most }

  pub more-stated : is_done new.focus ≡ true → AreStated table start first (number + 1) last old new
  more-stated told = record {
    stack = (stated-came any_limits refl).stack ∙ are.stack;
    far = (stated-came any_limits refl).far ∙ are.far;
    limits = limits-twice old now new are.limits (stated-came any_limits refl).limits;
    goes = λ limits text.
        let here : Comes now (stated-one limits) new = stated-came limits text in
        let goes : Alike (stated-rest limits (stated-one limits).state) (stated_from limits table start first (last - first) (state_of old)) =
        alike-then (stated-rest limits (stated-one limits).state) (then_do (stated-one limits) (stated-rest limits)) (stated_from limits table start first (last - first) (state_of old))
        (alike-back (then_do (stated-one limits) (stated-rest limits)) (stated-rest limits (stated-one limits).state) (follow-goes (stated-one limits).end (stated-one limits) (stated-rest limits) (stated-well limits true text told)))
        (stated-whole limits text) in
        subst (λ (s : State). Alike (stated-rest limits s) (stated_from limits table start first (last - first) (state_of old))) (sym here.state) goes;
  }

  pub last-stated : is_done new.focus ≡ false → (limits : Limits) → limits.text ≡ old.text.most
      → Comes old (stated_from limits table start first (last - first) (state_of old)) new
  last-stated told limits text =
      let here : Comes now (stated-one limits) new = stated-came limits text in
      let goes : Alike (stated-one limits) (stated_from limits table start first (last - first) (state_of old)) =
      alike-then (stated-one limits) (then_do (stated-one limits) (stated-rest limits)) (stated_from limits table start first (last - first) (state_of old))
      (alike-back (then_do (stated-one limits) (stated-rest limits)) (stated-one limits) (follow-ends (stated-one limits).end (stated-one limits) (stated-rest limits) (stated-well limits false text told)))
      (stated-whole limits text) in
      record {
        focus = here.focus ∙ ap (λ (e : End). Leave e) goes.end;
        stack = here.stack ∙ are.stack;
        state = here.state ∙ goes.state;
        far = here.far ∙ are.far;
        limits = limits-twice old now new are.limits here.limits;
      }

-- none is left
pub all-stated : (table : Table) (start : Start) (first number last : ℕ) (old now new : Parser) → last ≤ number → AreStated table start first number last old now
    → new ≡ record now { focus = Leave Done } → (limits : Limits) → limits.text ≡ old.text.most
    → Comes old (stated_from limits table start first (last - first) (state_of old)) new
unfolding stated_from
all-stated table start first number last old now new over are is limits text =
    let none : last - number ≡ 0 = omega arith in
    let goes : Alike (ended Done (state_of now)) (stated_from limits table start first (last - first) (state_of old)) =
    subst (λ (n : ℕ). Alike (stated_from limits table start number n (state_of now)) (stated_from limits table start first (last - first) (state_of old))) none
    (are.goes limits text) in
    record {
      focus = ap (λ (p : Parser). p.focus) is ∙ ap (λ (e : End). Leave e) goes.end;
      stack = ap (λ (p : Parser). p.stack) is ∙ are.stack;
      state = ap state_of is ∙ goes.state;
      far = ap (λ (p : Parser). p.far) is ∙ are.far;
      limits = limits-twice old now new are.limits (ap (λ (p : Parser). p.region.most) is, (ap (λ (p : Parser). p.text.most) is, (ap (λ (p : Parser). p.markup) is, ap (λ (p : Parser). p.items) is)));
    }

-- what is left of some statements that are considered again
pub record AreAgain (table : Table) (start : Start) (first number last : ℕ) (old now : Parser) : Type 0 where
  pub focus : now.focus ≡ old.focus
  pub stack : now.stack ≡ old.stack
  pub far : now.far ≡ old.far
  pub limits : HasSameLimits old now
  pub goes : reconsidered_from table start number (last - number) (state_of now) ≡ reconsidered_from table start first (last - first) (state_of old)

pub none-again : (table : Table) (start : Start) (first last : ℕ) (old : Parser) → AreAgain table start first first last old old
none-again table start first last old = record { focus = refl; stack = refl; far = refl; limits = (refl, (refl, (refl, refl))); goes = refl }

pub more-again : (table : Table) (start : Start) (first number last : ℕ) (old now new : Parser) → number < last → AreAgain table start first number last old now
    → Becomes now (record { focus = now.focus; stack = now.stack; state = reconsidered table start (slice_get table.statements number) (state_of now) }) new
    → AreAgain table start first (number + 1) last old new
unfolding reconsidered_from
more-again table start first number last old now new less are becomes =
    let count : last - number ≡ suc (last - (number + 1)) = omega arith in
    record {
      focus = ap (λ (m : Machine). m.focus) becomes.machine ∙ are.focus;
      stack = ap (λ (m : Machine). m.stack) becomes.machine ∙ are.stack;
      far = becomes.far ∙ are.far;
      limits = limits-twice old now new are.limits becomes.limits;
      goes = ap (λ (m : Machine). reconsidered_from table start (number + 1) (last - (number + 1)) m.state) becomes.machine
          ∙ sym (ap (λ (n : ℕ). reconsidered_from table start number n (state_of now)) count) ∙ are.goes;
    }

pub end-again : (table : Table) (start : Start) (first number last : ℕ) (old now : Parser) → last ≤ number → AreAgain table start first number last old now
    → Becomes old (record { focus = old.focus; stack = old.stack; state = reconsidered_from table start first (last - first) (state_of old) }) now
unfolding reconsidered_from
end-again table start first number last old now over are =
    let none : last - number ≡ 0 = omega arith in
    let state : state_of now ≡ reconsidered_from table start first (last - first) (state_of old) =
    sym (ap (λ (n : ℕ). reconsidered_from table start number n (state_of now)) none) ∙ are.goes in
    record {
      machine = λ i. record { focus = are.focus i; stack = are.stack i; state = state i };
      far = are.far;
      limits = are.limits;
    }

-- the statements behind a component are done
told-well : (end : End) (start : Start) (s : State) → is_well end ≡ true → told_at end start s ≡ s
told-well Done start s well = refl
told-well (Failed cause bit) start s well = absurd (cc)
told-well (Stopped cause quantity) start s well = absurd (cc)

told-else : (end : End) (start : Start) (s : State) → is_well end ≡ false → told_at end start s ≡ record s { inside = element_of start }
told-else Done start s well = absurd (cc)
told-else (Failed cause bit) start s well = refl
told-else (Stopped cause quantity) start s well = refl

module _ (table : Table) (statements : Statements) (start : Start) (last : ℕ) (held : Held) (old mid : Parser) (count : last ≡ statements.first + statements.count)
    (comes : (limits : Limits) → limits.text ≡ old.text.most → Comes old (stated_from limits table start statements.first (last - statements.first) (state_of old)) mid) where
  abbrev all-behind : Outcome
  all-behind = stated_from (limits_of old held) table start statements.first statements.count (state_of old)

  all-here : Comes old all-behind mid
  all-here =
      let many : last - statements.first ≡ statements.count = omega arith in
      subst (λ (n : ℕ). Comes old (stated_from (limits_of old held) table start statements.first n (state_of old)) mid) many (comes (limits_of old held) refl)

  pub concluded-well : is_done mid.focus ≡ true → Comes old (behind_done (limits_of old held) table statements start (state_of old)) mid
  concluded-well told =
      let well : is_well all-behind.end ≡ true = sym (ap is_done all-here.focus) ∙ told in
      record {
        focus = all-here.focus;
        stack = all-here.stack;
        state = all-here.state ∙ sym (told-well all-behind.end start all-behind.state well);
        far = all-here.far;
        limits = all-here.limits;
      }

  pub concluded-else : (new : Parser) → is_done mid.focus ≡ false → new ≡ record mid { inside = element_of start }
      → Comes old (behind_done (limits_of old held) table statements start (state_of old)) new
  concluded-else new told is =
      let other : is_well all-behind.end ≡ false = sym (ap is_done all-here.focus) ∙ told in
      record {
        focus = ap (λ (p : Parser). p.focus) is ∙ all-here.focus;
        stack = ap (λ (p : Parser). p.stack) is ∙ all-here.stack;
        state = ap state_of is ∙ ap (λ (s : State). record s { inside = element_of start }) all-here.state ∙ sym (told-else all-behind.end start all-behind.state other);
        far = ap (λ (p : Parser). p.far) is ∙ all-here.far;
        limits = limits-twice old mid new all-here.limits (ap (λ (p : Parser). p.region.most) is, (ap (λ (p : Parser). p.text.most) is, (ap (λ (p : Parser). p.markup) is, ap (λ (p : Parser). p.items) is)));
      }

-- those behind a component that has failed
pub reconsidered-moved : (table : Table) (statements : Statements) (start : Start) (last : ℕ) (held : Held) (old mid new : Parser) (end : End)
    → last ≡ statements.first + statements.count
    → Becomes old (record { focus = old.focus; stack = old.stack; state = reconsidered_from table start statements.first (last - statements.first) (state_of old) }) mid
    → new ≡ record mid { focus = Leave end } → Moved (reconsider table held statements start end old.stack (state_of old)) false old.far new held 0
reconsidered-moved table statements start last held old mid new end count becomes is =
    let many : last - statements.first ≡ statements.count = omega arith in
    let state : state_of mid ≡ reconsidered_from table start statements.first statements.count (state_of old) =
    ap (λ (m : Machine). m.state) becomes.machine ∙ ap (λ (n : ℕ). reconsidered_from table start statements.first n (state_of old)) many in
    let stack : mid.stack ≡ old.stack = ap (λ (m : Machine). m.stack) becomes.machine in
    let far : new.far ≡ old.far = ap (λ (p : Parser). p.far) is ∙ becomes.far in
    record {
      machine = ap shown is ∙ (λ i. record { focus = Leave end; stack = stack i; state = state i });
      held = refl;
      waits = refl;
      looks = refl;
      far = λ going. omega arith;
      stays = λ waits. far;
    }

-- statements stay where they are
pub stays-stated : (limits : Limits) (table : Table) (start : Start) (number : ℕ) (found : Option Statement) (s : State)
    → (stated limits table start number found s).state.at ≡ s.at
stays-stated limits table start number found s =
    stated-comes (λ end t. t.at ≡ s.at) (λ t there. there) (λ t nodes text variables there. there) (λ t cause there. there) (λ t cause quantity there. there)
    limits table start number found s refl

pub stays-behind : (limits : Limits) (table : Table) (statements : Statements) (start : Start) (s : State)
    → (behind_done limits table statements start s).state.at ≡ s.at
stays-behind limits table statements start s =
    behind-comes (λ end t. t.at ≡ s.at) (λ t there. there) (λ t nodes text variables there. there) (λ t cause there. there) (λ t cause quantity there. there)
    (λ end t inside there. there) limits table statements start s refl

pub stays-again : (table : Table) (start : Start) (first count : ℕ) (s : State) → (reconsidered_from table start first count s).at ≡ s.at
stays-again table start first count s =
    again-comes (λ t. t.at ≡ s.at) (λ t there. there) (λ t variables there. there) table start first count s refl

-- a statement that isn't a test of a pattern
module _ (old new : Parser) (limits : Limits) (table : Table) (focus : Focus) (held : Held) (number looks : ℕ) (none : looks ≡ 0) (cost : Tally) (free : IsFree cost) where
  abbrev Makes : Statement → Type 0
  Makes statement = Moved (make_statement cost limits table focus held number (Some statement) old.stack (state_of old)) false old.far new held looks

  came-by : (o : Outcome) → Comes old o new → Moved (comes_to cost held o old.stack) false old.far new held looks
  came-by o comes = subst (λ (n : ℕ). Moved (comes_to cost held o old.stack) false old.far new held n) (sym none) (comes-moved old new held cost o free comes)

  pub makes-test : (statement : Statement) (test : ExpressionTest) → statement ≡ Expression test
      → Comes old (stated limits table (Inside old.inside) number (Some (Expression test)) (state_of old)) new → Makes statement
  makes-test statement test is comes = subst Makes (sym is) (came-by (stated limits table (Inside old.inside) number (Some (Expression test)) (state_of old)) comes)

  pub makes-setting : (statement : Statement) (setting : SettingOf) → statement ≡ Setting setting
      → Comes old (stated limits table (Inside old.inside) number (Some (Setting setting)) (state_of old)) new → Makes statement
  makes-setting statement setting is comes =
      subst Makes (sym is) (came-by (stated limits table (Inside old.inside) number (Some (Setting setting)) (state_of old)) comes)

  pub makes-calculation : (statement : Statement) (calculation : CalculationOf) → statement ≡ Calculation calculation
      → Comes old (stated limits table (At old.inside) number (Some (Calculation calculation)) (state_of old)) new → Makes statement
  makes-calculation statement calculation is comes =
      subst Makes (sym is) (came-by (stated limits table (At old.inside) number (Some (Calculation calculation)) (state_of old)) comes)

-- what stands around an expression, as the code has it
pub around-same : (table : Table) (start : Start) (p : Parser) (seen : Seen)
    → seen ≡ record { names = table.names; nodes = p.region.nodes; text = p.text.bytes; marks = p.items; start = start }
    → p.items ≡ item_marks table.rows → around seen p.variables ≡ around_at table start (state_of p)
around-same table start p seen is items =
    ap (λ (x : Seen). around x p.variables) is
    ∙ ap (λ (marks : List Bool). around (record { names = table.names; nodes = p.region.nodes; text = p.text.bytes; marks = marks; start = start }) p.variables) items

pub evaluated-same : (table : Table) (start : Start) (p : Parser) (seen : Seen) (expression : List Node)
    → seen ≡ record { names = table.names; nodes = p.region.nodes; text = p.text.bytes; marks = p.items; start = start }
    → p.items ≡ item_marks table.rows
    → gives (meaning expression) (answer_in (around seen p.variables)) ≡ evaluated table start expression (state_of p)
evaluated-same table start p seen expression is items =
    ap (λ (a : Around). gives (meaning expression) (answer_in a)) (around-same table start p seen is items)

pub reads-same : (table : Table) (start : Start) (old new : Parser) (seen : Seen) (expression : List Node)
    → seen ≡ record { names = table.names; nodes = old.region.nodes; text = old.text.bytes; marks = old.items; start = start }
    → old.items ≡ item_marks table.rows
    → new ≡ record old { variables = new.variables; evaluation = new.evaluation }
    → new.variables ≡ (left_by answer_in read_in (meaning expression) (around seen old.variables)).variables
    → state_of new ≡ with_reads table start expression (state_of old)
reads-same table start old new seen expression is items same reads =
    ap state_of same
    ∙ ap (λ (v : Kept). record (state_of old) { variables = v })
    (reads ∙ ap (λ (a : Around). (left_by answer_in read_in (meaning expression) a).variables) (around-same table start old seen is items))

-- a text is one of characters
pub text-given : (limits : Limits) (text : List ℕ) (old new : Parser) → is_utf8 text ≡ true → limits.text ≡ old.text.most
    → Comes old (hold old.text.most content.Text text (vacant old.at) (state_of old)) new → Comes old (calculated limits (Ok (value.Text text)) (state_of old)) new
text-given limits text old new utf8 most comes =
    subst (λ (b : Bool). Comes old (cond b (hold limits.text content.Text text (vacant old.at) (state_of old)) (ended (Failed (ExpressionFault 6) old.at) (state_of old))) new) (sym utf8)
    (subst (λ (n : ℕ). Comes old (hold n content.Text text (vacant old.at) (state_of old)) new) (sym most) comes)

-- what an outcome is behind an expression
pub after-reads : (old mid new : Parser) (o : State → Outcome) (s : State) → mid ≡ record old { variables = mid.variables; evaluation = mid.evaluation }
    → state_of mid ≡ s → Comes mid (o (state_of mid)) new → Comes old (o s) new
after-reads old mid new o s same is comes =
    let there : Comes mid (o s) new = subst (λ (t : State). Comes mid (o t) new) is comes in
    record {
      focus = there.focus;
      stack = there.stack ∙ ap (λ (p : Parser). p.stack) same;
      state = there.state;
      far = there.far ∙ ap (λ (p : Parser). p.far) same;
      limits = limits-twice old mid new (ap (λ (p : Parser). p.region.most) same, (ap (λ (p : Parser). p.text.most) same, (ap (λ (p : Parser). p.markup) same, ap (λ (p : Parser). p.items) same))) there.limits;
    }

-- a statement of a list by its number
pub found-statement : (statements all : List Statement) (number : ℕ) (statement : Statement) → statements ≡ all → true ≡ ltb number (length statements)
    → statement ≡ get_or statements number statement → slice_get all number ≡ Some statement
found-statement statements all number statement same inside is =
    let there : number < length statements = grind (arith, nat_tests) in
    subst (λ (xs : List Statement). slice_get xs number ≡ Some statement) same
    (slice_get-get_or statements number statement there ∙ ap (λ (x : Statement). Some x) (sym is))
