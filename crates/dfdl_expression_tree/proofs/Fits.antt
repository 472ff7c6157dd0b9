-- Which tokens may stand behind an operand, and which where one begins.
use Rattle.std.proofs.Common.{◌≡◌, Bool, true, false, ◌&&◌, List, [], ◌∷◌, ◌++◌, ap, ◌∙◌, append_assoc}
use Rattle.dfdl_expression_text.specs.declared.kind.Kind.{Kind}
use Rattle.dfdl_expression_text.specs.declared.kind.Kind.TheVariants as k
use Rattle.dfdl_expression_text.specs.Syntax.{Part, Syntax, spelling, is_name, calculates}
use Rattle.dfdl_expression_text.specs.Syntax as s
use Rattle.dfdl_expression_tree.specs.Lexing.{ends_operand}
use Rattle.dfdl_expression_tree.proofs.Lexes.{may_be}

-- each token may stand where it does, behind an operand or not
abbrev pub fits : Bool → List Kind → Bool
fits ended [] = true
fits ended (kind ∷ kinds) = may_be ended kind && fits (ends_operand kind) kinds

-- an operand ends before the part
abbrev pub ended_before : Part → Bool
ended_before (s.Rest compared) = true
ended_before s.Further = true
ended_before s.Onward = true
ended_before s.Index = true
ended_before _ = false

fits_two : (ended : Bool) (xs ys zs : List Kind) → fits ended (xs ++ (ys ++ zs)) ≡ true → fits ended (xs ++ ys ++ zs) ≡ true
fits_two ended xs ys zs is = ap (λ l. fits ended l) (append_assoc xs ys zs) ∙ is

name_fits : (k : Kind) (ks : List Kind) → is_name k ≡ true → fits true ks ≡ true → fits false (k ∷ ks) ≡ true
name_fits k.If ks is more = more
name_fits k.Name ks is more = more
name_fits _ ks is more = absurd (cc)

operator_fits : (k : Kind) (ks : List Kind) → calculates k ≡ true → fits false ks ≡ true → fits true (k ∷ ks) ≡ true
operator_fits k.Minus ks is more = more
operator_fits k.Calculation ks is more = more
operator_fits _ ks is more = absurd (cc)

pub part_fits : {p : Part} (t : Syntax p) (ks : List Kind) → fits true ks ≡ true → fits (ended_before p) (spelling t ++ ks) ≡ true
part_fits (s.Conditional test first second) ks more =
    fits_two false (spelling test) (k.Close ∷ k.Then ∷ (spelling first ++ k.Else ∷ spelling second)) ks
    (part_fits test (k.Close ∷ k.Then ∷ (spelling first ++ k.Else ∷ spelling second ++ ks))
    (fits_two false (spelling first) (k.Else ∷ spelling second) ks
    (part_fits first (k.Else ∷ (spelling second ++ ks)) (part_fits second ks more))))
part_fits (s.Chain first rest) ks more =
    fits_two false (spelling first) (spelling rest) ks (part_fits first (spelling rest ++ ks) (part_fits rest ks more))
part_fits (s.Ended compared) ks more = more
part_fits (s.Joined compared term rest) ks more =
    fits_two false (spelling term) (spelling rest) ks (part_fits term (spelling rest ++ ks) (part_fits rest ks more))
part_fits (s.Compared term rest) ks more =
    fits_two false (spelling term) (spelling rest) ks (part_fits term (spelling rest ++ ks) (part_fits rest ks more))
part_fits (s.Calculated compared k is term rest) ks more =
    operator_fits k (spelling term ++ spelling rest ++ ks) is
    (fits_two false (spelling term) (spelling rest) ks (part_fits term (spelling rest ++ ks) (part_fits rest ks more)))
part_fits (s.Negative factor) ks more = part_fits factor ks more
part_fits (s.Plain factor) ks more = part_fits factor ks more
part_fits s.Constant ks more = more
part_fits (s.Variable k is) ks more = name_fits k ks is more
part_fits (s.Call arguments) ks more = part_fits arguments ks more
part_fits (s.Absolute steps) ks more = part_fits steps ks more
part_fits (s.Relative steps) ks more = part_fits steps ks more
part_fits (s.Group inner) ks more =
    fits_two false (spelling inner) (k.Close ∷ []) ks (part_fits inner (k.Close ∷ ks) more)
part_fits s.NoArguments ks more = more
part_fits (s.SomeArguments first rest) ks more =
    fits_two false (spelling first) (spelling rest) ks (part_fits first (spelling rest ++ ks) (part_fits rest ks more))
part_fits s.LastArgument ks more = more
part_fits (s.NextArgument next rest) ks more =
    fits_two false (spelling next) (spelling rest) ks (part_fits next (spelling rest ++ ks) (part_fits rest ks more))
part_fits (s.DotStep onward) ks more = part_fits onward ks more
part_fits (s.NameStep k is index onward) ks more =
    name_fits k (spelling index ++ spelling onward ++ ks) is
    (fits_two true (spelling index) (spelling onward) ks (part_fits index (spelling onward ++ ks) (part_fits onward ks more)))
part_fits s.LastStep ks more = more
part_fits (s.NextStep steps) ks more = part_fits steps ks more
part_fits s.NoIndex ks more = more
part_fits (s.AnIndex inner) ks more =
    fits_two false (spelling inner) (k.CloseIndex ∷ []) ks (part_fits inner (k.CloseIndex ∷ ks) more)
