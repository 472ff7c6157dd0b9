use Rattle.std.proofs.Common.{◌≡◌, ap, sym, ◌∙◌, inl, inr, refl}
use Rattle.dfdl_operators.specs.Constructors.{IsAnswer}
use Rattle.dfdl_operators.specs.Numbers.{Answer}
use Rattle.dfdl_value.specs.declared.value.Value.{Value as ValueOf}
use Rattle.dfdl_expression_eval.specs.Asks.{Asks}
use Rattle.dfdl_expression_eval.specs.Machine.{acted, computed, evaluated_of}
use Rattle.dfdl_expression_eval.specs.Runs.{run, told}
use Rattle.dfdl_expression_eval.proofs.Asking.{IsComputed, answered_is, computed_at, if_ok}
use Rattle.dfdl_expression_eval.proofs.acting.act.Goals as goal

pub returns-in-Constant-clause-comes : goal.returns-in-Constant-clause-comes
returns-in-Constant-clause-comes g c =
    let n = c.args.node.now in
    let values = c.args.values.now in
    let is : IsComputed n = elim c.in-Constant.is [
      | inl e ↦ computed_at n _ e.1 (λ vs go. refl)
      | inr r ↦ elim r [
        | inl e ↦ computed_at n _ e (λ vs go. refl)
        | inr r ↦ elim r [
          | inl e ↦ computed_at n _ e.2 (λ vs go. refl)
          | inr r ↦ elim r [
            | inl e ↦ computed_at n _ e.3 (λ vs go. refl)
            | inr r ↦ elim r [
              | inl e ↦ computed_at n _ e.3 (λ vs go. refl)
              | inr r ↦ elim r [
                | inl e ↦ computed_at n _ e.1 (λ vs go. refl)
                | inr r ↦ elim r [
                  | inl e ↦ computed_at n _ e.2 (λ vs go. refl)
                  | inr r ↦ elim r [
                    | inl e ↦ computed_at n _ e.2 (λ vs go. refl)
                    | inr e ↦ computed_at n _ e.3 (λ vs go. refl)
                  ]
                ]
              ]
            ]
          ]
        ]
      ]
    ] in
    if_ok c.given.result
    (λ e. e ≡ evaluated_of (computed n values))
    (λ e. (go : ValueOf → Asks) → run g.E.Env.answers g.E.Env.read (acted n values go) c.args.env.now
    ≡ told e c.args.env.now (λ v t. run g.E.Env.answers g.E.Env.read (go v) t))
    (λ e same go. ap (λ a. run g.E.Env.answers g.E.Env.read a c.args.env.now) (is values go)
    ∙ answered_is g.E.Env.answers g.E.Env.read (computed n values) go c.args.env.now
    ∙ ap (λ x. told x c.args.env.now (λ v t. run g.E.Env.answers g.E.Env.read (go v) t)) (sym same))
    (if_ok c.given.result
    (λ e. (a : Answer) → IsAnswer a c.compute.result → e ≡ evaluated_of a)
    (λ e. e ≡ evaluated_of (computed n values))
    (λ e all. all (computed n values) c.compute.ensures.answer) c.given.ensures.answer)
