-- What a call has to answer: what is expected or its refusal, or want of memory.
use Rattle.std.specs.Prelude.{◌≡◌, Result, Ok, Err}
use Rattle.dfdl_json.specs.declared.fault.InfosetFault.{InfosetFault}
use Rattle.dfdl_json.specs.declared.fault.InfosetFault.TheVariants.{Bad, OutOfMemory}
use Rattle.dfdl_json.specs.Infosets.{Refusal}

-- the fault is the refusal, or want of memory
abbrev pub IsFault : InfosetFault → Refusal → Type 0
IsFault (Bad cause path) refusal = refusal ≡ record { cause = cause; path = path }
IsFault OutOfMemory refusal = Unit {0}

-- The answer is what is expected, as a clause shows it, or the refusal that is; want of memory alone is free.
abbrev pub Answers : {A B : Type 0} → (A → B) → Result B Refusal → Result A InfosetFault → Type 0
Answers shown expected (Ok a) = expected ≡ Ok (shown a)
Answers shown expected (Err (Bad cause path)) = expected ≡ Err (record { cause = cause; path = path })
Answers shown expected (Err OutOfMemory) = Unit {0}
