-- What the code made of a leaf or a prefix, said of the parser before it.
use Rattle.std.proofs.Common.{◌≡◌, ℕ, ◌<◌, List, [], ◌∷◌, length, get_or, ltb, Bool, true, false, Option, Some, refl, ap, sym, subst, ◌∙◌, arith}
use Rattle.std.specs.Prelude.{slice_get}
use Rattle.std.proofs.lemmas.Option.{slice_get-get_or}
use Rattle.std.proofs.lemmas.Bool.Decides.{nat_tests}
use Rattle.dfdl_bits.specs.Window.{Held, from_byte, seen_at}
use Rattle.dfdl_bits.specs.declared.window.Seen.{Seen}
use Rattle.dfdl_terms.specs.declared.prefix.LengthUnit.{LengthUnit}
use Rattle.dfdl_value.specs.declared.value.Value.{Value}
use Rattle.dfdl_terms.specs.declared.row.Primitive.{Primitive}
use Rattle.dfdl_terms.specs.declared.row.Row.{Row}
use Rattle.dfdl_terms.specs.declared.row.Row.TheVariants.{Leaf, Boxed, Scope, Separated, Spanned, Statement, Concluded}
use Rattle.dfdl_terms.specs.declared.text.TextSize.{TextSize}
use Rattle.dfdl_terms.specs.Rows.{Table}
use Rattle.dfdl_looks.specs.Asks.{Ask, ask}
use Rattle.dfdl_looks.specs.Tallies.{nothing, one_row}
use Rattle.dfdl_delims.specs.Longest.{Longest}
use Rattle.dfdl_terms.specs.declared.delimiters.Delimiters.{Delimiters}
use Rattle.dfdl_grammar.specs.Delimiters.{opens, sought_among}
use Rattle.dfdl_grammar.specs.Framing.{aligned}
use Rattle.dfdl_grammar.specs.declared.limits.Limits.{Limits}
use Rattle.dfdl_grammar.specs.States.{State, anchor_at}
use Rattle.dfdl_grammar.specs.Leaves.{nil_values, read_by}
use Rattle.dfdl_grammar.specs.Prefixes.{bits_of_units, resized, size_of}
use Rattle.dfdl_parse.specs.declared.frame.Frame.{Frame}
use Rattle.dfdl_parse.specs.declared.frame.Focus.{Focus}
use Rattle.dfdl_parse.specs.declared.frame.Frame.TheVariants.{Spanning, Scope as ScopeFrame}
use Rattle.dfdl_parse.specs.declared.frame.Focus.TheVariants.{Enter, Seek, Sized}
use Rattle.dfdl_parse.specs.declared.frame.Behind.{Behind}
use Rattle.dfdl_parse.specs.declared.frame.Behind.TheVariants as behind
use Rattle.dfdl_parse.specs.declared.parser.Parser.{Parser}
use Rattle.dfdl_parse.specs.declared.frame.Sought.{Sought}
use Rattle.dfdl_parse.specs.Moves.{Move, pass, read_leaf}
use Rattle.dfdl_parse.specs.Searches.{among, place_of, search, search_move}
use Rattle.dfdl_parse.specs.Machines.{enter, enter_box}
use Rattle.dfdl_terms.specs.declared.statement.Statements.{Statements}
use Rattle.dfdl_paths.specs.declared.place.Start.TheVariants.{Inside}
use Rattle.dfdl_parse.specs.Asking.{begins}
use Rattle.dfdl_parse.specs.Stating.{make_statement, with_behind}
use Rattle.dfdl_parse.specs.Prefixed.{behind_units, box_begins, read_resized, read_sized, sized_begins}
use Rattle.dfdl_separators.specs.declared.policy.SeparatorPosition.{SeparatorPosition}
use Rattle.dfdl_separators.specs.declared.policy.SeparatorSuppressionPolicy.{SeparatorSuppressionPolicy}
use Rattle.dfdl_terms.specs.declared.slots.Slot.{Slot}
use Rattle.dfdl_parse.specs.Slots.{enter_separated}
use Rattle.dfdl_parse.specs.Steps.{Moved}
use Rattle.dfdl_parse.specs.Shown.{Becomes, HasSameLimits, limits_of, shown, state_of}
use Rattle.std.proofs.Common.{cond}
use Rattle.dfdl_parse.specs.Moves.{Machine}
use Rattle.dfdl_grammar.specs.Leaves.{has_room}
use Rattle.dfdl_grammar.specs.Leaves.{content_begins}
use Rattle.dfdl_grammar.specs.Leaves.{program}
use Rattle.dfdl_parse.specs.Prefixed.{prefix_move}
use Rattle.dfdl_parse.specs.Prefixed.{read_prefix}
use Rattle.dfdl_grammar.specs.States.{anchor}
use Rattle.dfdl_grammar.specs.Delimiters.{lists_of}
use Rattle.dfdl_grammar.specs.Delimiters.{markup}
use Rattle.dfdl_parse.specs.declared.frame.Focus.TheVariants.{Leave}
use Rattle.dfdl_grammar.specs.declared.end.End.TheVariants.{Failed}
use Rattle.dfdl_report.specs.declared.cause.ParseCause.TheVariants.{LengthOutOfRange}

-- a step of the parser that differs in what it has read, at the place and the window that the clause speaks of
pub moved-at : (old mid new : Parser) (begins first : ℕ) (held there : Held) (waited : Bool) (looks : ℕ) (move : Parser → ℕ → Held → Move)
    → mid ≡ record old { scratch = mid.scratch; candidates = mid.candidates } → first ≡ begins → there ≡ held
    → Moved (move mid first there) waited mid.far new there looks
    → Moved (move (record old { scratch = mid.scratch; candidates = mid.candidates }) begins held) waited old.far new there looks
moved-at old mid new begins first held there waited looks move same at is moved =
    let one : Moved (move (record old { scratch = mid.scratch; candidates = mid.candidates }) first there) waited old.far new there looks =
    subst (λ (p : Parser). Moved (move p first there) waited p.far new there looks) same moved in
    let two : Moved (move (record old { scratch = mid.scratch; candidates = mid.candidates }) begins there) waited old.far new there looks =
    subst (λ (n : ℕ). Moved (move (record old { scratch = mid.scratch; candidates = mid.candidates }) n there) waited old.far new there looks) at one in
    subst (λ (h : Held). Moved (move (record old { scratch = mid.scratch; candidates = mid.candidates }) begins h) waited old.far new there looks) is two

-- the same of a step that differs in what it has read, over the window that the clause speaks of
pub asked-moved : (old mid new : Parser) (held there : Held) (waited : Bool) (looks : ℕ) (move : Parser → Held → Move)
    → mid ≡ record old { scratch = mid.scratch } → there ≡ held → Moved (move mid there) waited mid.far new there looks
    → Moved (move (record old { scratch = mid.scratch }) held) waited old.far new there looks
asked-moved old mid new held there waited looks move same is moved =
    let one : Moved (move (record old { scratch = mid.scratch }) there) waited old.far new there looks =
    subst (λ (p : Parser). Moved (move p there) waited p.far new there looks) same moved in
    subst (λ (h : Held). Moved (move (record old { scratch = mid.scratch }) h) waited old.far new there looks) is one

-- a prefix whose box ends in the one around it
pub prefix-moved : (limits : Limits) (held : Held) (delimiters : List Delimiters) (id own : ℕ) (next : ℕ → List Frame → State → Machine) (primitive : Primitive) (k : List Frame) (s : State)
    (waited : Bool) (far : ℕ) (new : Parser) (now_held : Held) (looks : ℕ) → has_room primitive s.at s.stop ≡ true
    → Moved (prefix_move limits id own (content_begins primitive s.at) next (from_byte held (anchor s))
    (ask (seen_at (from_byte held (anchor s))) (program (lists_of delimiters (markup s)) primitive s.at s.stop) nothing) k s) waited far new now_held looks
    → Moved (read_prefix limits id held delimiters own next (Some primitive) k s) waited far new now_held looks
prefix-moved limits held delimiters id own next primitive k s waited far new now_held looks room moved =
    subst (λ (b : Bool). Moved (cond b
    (prefix_move limits id own (content_begins primitive s.at) next (from_byte held (anchor s))
    (ask (seen_at (from_byte held (anchor s))) (program (lists_of delimiters (markup s)) primitive s.at s.stop) nothing) k s)
    (pass one_row held (Leave (Failed LengthOutOfRange s.at)) k s)) waited far new now_held looks) (sym room) moved

-- a leaf that has the size that was told
pub sized-moved : (limits : Limits) (held : Held) (delimiters : List Delimiters) (nil : Option (List Value)) (focus : Focus) (prim : ℕ) (size : TextSize) (primitives : List Primitive) (first primitive : Primitive) (k : List Frame) (s : State)
    (waited : Bool) (far : ℕ) (new : Parser) (now_held : Held) (looks : ℕ) → focus ≡ Sized prim size → slice_get primitives prim ≡ Some first → resized size first ≡ Some primitive
    → Moved (read_leaf nothing limits focus held delimiters nil (Some primitive) k s) waited far new now_held looks
    → Moved (read_sized limits held delimiters prim size nil (slice_get primitives prim) k s) waited far new now_held looks
sized-moved limits held delimiters nil focus prim size primitives first primitive k s waited far new now_held looks at is sized moved =
    let one : Moved (read_leaf nothing limits (Sized prim size) held delimiters nil (Some primitive) k s) waited far new now_held looks =
    subst (λ (f : Focus). Moved (read_leaf nothing limits f held delimiters nil (Some primitive) k s) waited far new now_held looks) at moved in
    let two : Moved (read_resized limits (Sized prim size) held delimiters nil (resized size first) k s) waited far new now_held looks =
    subst (λ (p : Option Primitive). Moved (read_resized limits (Sized prim size) held delimiters nil p k s) waited far new now_held looks) (sym sized) one in
    subst (λ (p : Option Primitive). Moved (read_sized limits held delimiters prim size nil p k s) waited far new now_held looks) (sym is) two

-- a leaf behind a prefix
pub leaf-becomes : (old new : Parser) (primitives : List Primitive) (unit : LengthUnit) (b : Behind) (prim units : ℕ) → b ≡ behind.Leaf prim
    → Becomes old (sized_begins (slice_get primitives prim) prim (size_of unit units) old.stack (state_of old)) new
    → Becomes old (behind_units primitives unit b units old.stack (state_of old)) new
leaf-becomes old new primitives unit b prim units is begins =
    subst (λ (x : Behind). Becomes old (behind_units primitives unit x units old.stack (state_of old)) new) (sym is) begins

-- a box behind a prefix
pub box-becomes : (old new : Parser) (primitives : List Primitive) (unit : LengthUnit) (b : Behind) (body units bits : ℕ) → b ≡ behind.Box body
    → bits ≡ bits_of_units unit units → HasSameLimits old new
    → ((held : Held) → Moved (enter_box held bits body old.stack (state_of old)) false old.far new held 0)
    → Becomes old (behind_units primitives unit b units old.stack (state_of old)) new
box-becomes old new primitives unit b body units bits is size limits moves =
    let moved = moves (record { bytes = []; base = 0; size = 0; ended = false }) in
    let far = moved.far refl in
    let begins : shown new ≡ box_begins (bits_of_units unit units) body old.stack (state_of old) =
    moved.machine ∙ ap (λ (n : ℕ). box_begins n body old.stack (state_of old)) size in
    subst (λ (x : Behind). Becomes old (behind_units primitives unit x units old.stack (state_of old)) new) (sym is)
    (record { machine = begins; far = omega arith; limits = limits })

-- an element of a list by its number
pub indexed : (primitives all : List Primitive) (prim : ℕ) (primitive : Primitive) → primitives ≡ all → prim < length primitives → primitive ≡ get_or primitives prim primitive
    → slice_get all prim ≡ Some primitive
indexed primitives all prim primitive same there is =
    subst (λ (xs : List Primitive). slice_get xs prim ≡ Some primitive) same
    (slice_get-get_or primitives prim primitive there
    ∙ ap (λ (p : Primitive). Some p) (sym is))

pub got : (primitives all : List Primitive) (prim : ℕ) (primitive : Primitive) → primitives ≡ all → true ≡ ltb prim (length primitives)
    → primitive ≡ get_or primitives prim primitive → slice_get all prim ≡ Some primitive
got primitives all prim primitive same inside is = indexed primitives all prim primitive same (grind (arith, nat_tests)) is

-- fill or the rest of a box is looked at, at the window, the bytes and the look that the clause speaks of
pub looked-at : (window size low anchor last byte looks made : ℕ) (held : Held) (v : Seen) (sight : ℕ → Held) (seen : ℕ → ℕ → Seen)
    → window ≡ size → low ≡ anchor → last ≡ byte → looks ≡ made → v ≡ seen low last → held ≡ sight low
    → (P : ℕ → Held → Held → Seen → ℕ → Type 0) → P window held held v looks → P size (sight anchor) held (seen anchor byte) made
looked-at window size low anchor last byte looks made held v sight seen same from at cost look is P here =
    let one : P size held held v looks = subst (λ (w : ℕ). P w held held v looks) same here in
    let two : P size held held v made = subst (λ (n : ℕ). P size held held v n) cost one in
    let three : P size held held (seen low last) made = subst (λ (s : Seen). P size held held s made) look two in
    let four : P size (sight low) held (seen low last) made = subst (λ (h : Held). P size h held (seen low last) made) is three in
    let five : P size (sight anchor) held (seen anchor last) made = subst (λ (k : ℕ). P size (sight k) held (seen k last) made) from four in
    subst (λ (k : ℕ). P size (sight anchor) held (seen anchor k) made) at five

module _ (limits : Limits) (table : Table) (held : Held) (id : ℕ) (r : Row) (k : List Frame) (s : State) (far : ℕ) (new : Parser)
    (at : slice_get table.rows id ≡ Some r) where
  -- a leaf is entered
  pub leaf-entered : (focus : Focus) (prim : ℕ) (waited : Bool) (now_held : Held) (looks : ℕ) → r ≡ Leaf prim → focus ≡ Enter id
      → Moved (read_leaf one_row limits focus held table.delimiters (nil_values table.primitives s.instead)
      (slice_get table.primitives (read_by table.primitives s.instead prim)) k s) waited far new now_held looks
      → Moved (enter limits table held id (slice_get table.rows id) k s) waited far new now_held looks
  leaf-entered focus prim waited now_held looks is enters moved =
      let row_is : slice_get table.rows id ≡ Some (Leaf prim) = at ∙ ap (λ (x : Row). Some x) is in
      subst (λ (o : Option Row). Moved (enter limits table held id o k s) waited far new now_held looks) (sym row_is)
      (subst (λ (f : Focus). Moved (read_leaf one_row limits f held table.delimiters (nil_values table.primitives s.instead)
      (slice_get table.primitives (read_by table.primitives s.instead prim)) k s) waited far new now_held looks) enters moved)

  -- a statement is entered
  pub statement-entered : (focus : Focus) (number : ℕ) (waited : Bool) (now_held : Held) (looks : ℕ) → r ≡ Statement number → focus ≡ Enter id
      → Moved (make_statement one_row limits table focus held number (slice_get table.statements number) k s) waited far new now_held looks
      → Moved (enter limits table held id (slice_get table.rows id) k s) waited far new now_held looks
  statement-entered focus number waited now_held looks is enters moved =
      let row_is : slice_get table.rows id ≡ Some (Statement number) = at ∙ ap (λ (x : Row). Some x) is in
      subst (λ (o : Option Row). Moved (enter limits table held id o k s) waited far new now_held looks) (sym row_is)
      (subst (λ (f : Focus). Moved (make_statement one_row limits table f held number (slice_get table.statements number) k s) waited far new now_held looks) enters moved)

  -- a box is entered
  pub box-entered : (bits body looks : ℕ) → r ≡ Boxed bits body → looks ≡ 0
      → Moved (enter_box held bits body k s) false far new held 0 → Moved (enter limits table held id (slice_get table.rows id) k s) false far new held looks
  box-entered bits body looks is none moved =
      let row_is : slice_get table.rows id ≡ Some (Boxed bits body) = at ∙ ap (λ (x : Row). Some x) is in
      subst (λ (o : Option Row). Moved (enter limits table held id o k s) false far new held looks) (sym row_is)
      (subst (λ (n : ℕ). Moved (enter_box held bits body k s) false far new held n) (sym none) moved)

  -- a scope is entered
  pub scope-entered : (list body looks : ℕ) → r ≡ Scope list body → looks ≡ 0
      → Moved (pass one_row held (Enter body) (ScopeFrame (length s.lists) ∷ k) (opens list s)) false far new held 0
      → Moved (enter limits table held id (slice_get table.rows id) k s) false far new held looks
  scope-entered list body looks is none moved =
      let row_is : slice_get table.rows id ≡ Some (Scope list body) = at ∙ ap (λ (x : Row). Some x) is in
      subst (λ (o : Option Row). Moved (enter limits table held id o k s) false far new held looks) (sym row_is)
      (subst (λ (n : ℕ). Moved (pass one_row held (Enter body) (ScopeFrame (length s.lists) ∷ k) (opens list s)) false far new held n) (sym none) moved)

  -- a component with statements behind it is entered
  pub concluded-entered : (statements : Statements) (body looks : ℕ) → r ≡ Concluded statements body → looks ≡ 0
      → Moved (pass one_row held (Enter body) (with_behind statements (Inside s.inside) k) s) false far new held 0
      → Moved (enter limits table held id (slice_get table.rows id) k s) false far new held looks
  concluded-entered statements body looks is none moved =
      let row_is : slice_get table.rows id ≡ Some (Concluded statements body) = at ∙ ap (λ (x : Row). Some x) is in
      subst (λ (o : Option Row). Moved (enter limits table held id o k s) false far new held looks) (sym row_is)
      (subst (λ (n : ℕ). Moved (pass one_row held (Enter body) (with_behind statements (Inside s.inside) k) s) false far new held n) (sym none) moved)

  -- a content without a box is entered
  pub spanned-entered : (body looks : ℕ) → r ≡ Spanned body → looks ≡ 0
      → Moved (pass one_row held (Enter body) (Spanning s.at ∷ k) s) false far new held 0
      → Moved (enter limits table held id (slice_get table.rows id) k s) false far new held looks
  spanned-entered body looks is none moved =
      let row_is : slice_get table.rows id ≡ Some (Spanned body) = at ∙ ap (λ (x : Row). Some x) is in
      subst (λ (o : Option Row). Moved (enter limits table held id o k s) false far new held looks) (sym row_is)
      (subst (λ (n : ℕ). Moved (pass one_row held (Enter body) (Spanning s.at ∷ k) s) false far new held n) (sym none) moved)

  -- a row that asks an expression is entered
  pub asking-entered : (row : Row) (m : Machine) (looks : ℕ) → r ≡ row → enter limits table held id (Some row) k s ≡ begins one_row held m → looks ≡ 0
      → Moved (begins one_row held m) false far new held 0 → Moved (enter limits table held id (slice_get table.rows id) k s) false far new held looks
  asking-entered row m looks is step none moved =
      let row_is : slice_get table.rows id ≡ Some row = at ∙ ap (λ (x : Row). Some x) is in
      subst (λ (o : Option Row). Moved (enter limits table held id o k s) false far new held looks) (sym row_is)
      (subst (λ (n : ℕ). Moved (enter limits table held id (Some row) k s) false far new held n) (sym none)
      (subst (λ (move : Move). Moved move false far new held 0) (sym step) moved))

  -- a sequence with separators is entered
  pub separated-entered : (policy : SeparatorSuppressionPolicy) (position : SeparatorPosition) (initiated : Bool) (slots : List Slot) (looks : ℕ)
      → r ≡ Separated policy position initiated slots → looks ≡ 0
      → Moved (enter_separated held id policy position initiated slots k s) false far new held 0
      → Moved (enter limits table held id (slice_get table.rows id) k s) false far new held looks
  separated-entered policy position initiated slots looks is none moved =
      let row_is : slice_get table.rows id ≡ Some (Separated policy position initiated slots) = at ∙ ap (λ (x : Row). Some x) is in
      subst (λ (o : Option Row). Moved (enter limits table held id o k s) false far new held looks) (sym row_is)
      (subst (λ (n : ℕ). Moved (enter_separated held id policy position initiated slots k s) false far new held n) (sym none) moved)

-- a text is sought, over the window and at the state that the clause speaks of
pub sought-moved : (old mid new : Parser) (delimiters : List Delimiters) (held there : Held) (what : Sought) (waited : Bool) (looks : ℕ)
    → mid ≡ record old { candidates = mid.candidates } → there ≡ from_byte held (anchor_at (state_of old) (aligned 8 old.at)) → old.focus ≡ Seek what
    → Moved (search_move there.size mid.focus what (place_of what (state_of mid)) there
    (ask (seen_at there) (sought_among (among delimiters what (state_of old)) old.at old.stop) nothing) mid.stack (state_of mid)) waited mid.far new there looks
    → Moved (search (limits_of old held) delimiters held what old.stack (state_of old)) waited old.far new there looks
sought-moved old mid new delimiters held there what waited looks same is seeks moved =
    let s : State = state_of old in
    let asks : Ask Longest = sought_among (among delimiters what s) old.at old.stop in
    let one : Moved (search_move there.size old.focus what (place_of what s) there (ask (seen_at there) asks nothing) old.stack s) waited old.far new there looks =
    subst (λ (p : Parser). Moved (search_move there.size p.focus what (place_of what (state_of p)) there
    (ask (seen_at there) asks nothing) p.stack (state_of p)) waited p.far new there looks) same moved in
    let two : Moved (search_move there.size (Seek what) what (place_of what s) there (ask (seen_at there) asks nothing) old.stack s) waited old.far new there looks =
    subst (λ (f : Focus). Moved (search_move there.size f what (place_of what s) there (ask (seen_at there) asks nothing) old.stack s) waited old.far new there looks) seeks one in
    subst (λ (h : Held). Moved (search_move h.size (Seek what) what (place_of what s) h (ask (seen_at h) asks nothing) old.stack s) waited old.far new there looks) is two
