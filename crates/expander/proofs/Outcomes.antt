-- What all answers of a step have, where those of the steps that it is made of have it.
use Rattle.std.proofs.Common.{◌≡◌, Bool, true, false, Result, Ok, Err, refl}
use Rattle.std.specs.Prelude.{IfOk, OnOk, if◌then◌else◌}
use Rattle.ts_base.specs.Agreement.{◌>>=◌, with_fault}

pub if_given : {X E : Type 0} (a : Result X E) (P : X → Type 0) → ((x : X) → a ≡ Ok x → P x) → IfOk a P
if_given (Ok x) P has = has x refl
if_given (Err e) P has = tt

pub if_weaker : {X E : Type 0} (a : Result X E) (P Q : X → Type 0) → IfOk a P → ((x : X) → P x → Q x) → IfOk a Q
if_weaker (Ok x) P Q has goes = goes x has
if_weaker (Err e) P Q has goes = tt

pub if_bind : {X Y E : Type 0} (a : Result X E) (f : X → Result Y E) (P : X → Type 0) (Q : Y → Type 0) → IfOk a P → ((x : X) → P x → IfOk (f x) Q) → IfOk (a >>= f) Q
if_bind (Ok x) f P Q has goes = goes x has
if_bind (Err e) f P Q has goes = tt

-- whatever the first step gives
pub if_then : {X Y E : Type 0} (a : Result X E) (f : X → Result Y E) (Q : Y → Type 0) → ((x : X) → IfOk (f x) Q) → IfOk (a >>= f) Q
if_then (Ok x) f Q goes = goes x
if_then (Err e) f Q goes = tt

pub if_fault : {X E D : Type 0} (becomes : E → D) (a : Result X E) (P : X → Type 0) → IfOk a P → IfOk (with_fault becomes a) P
if_fault becomes (Ok x) P has = has
if_fault becomes (Err e) P has = tt

pub if_either : {X E : Type 0} (b : Bool) (x y : Result X E) (P : X → Type 0) → IfOk x P → IfOk y P → IfOk (if b then x else y) P
if_either true x y P has other = has
if_either false x y P has other = other

-- what is so after an answer, where there is one
pub on_ok : {X E : Type 0} (P : Type 0) (a : Result X E) (x : X) → a ≡ Ok x → OnOk a P → P
on_ok P (Ok y) x is has = has
on_ok P (Err e) x is has = absurd cc

pub on_ok_weaker : {X E : Type 0} {P Q : Type 0} (a : Result X E) → OnOk a P → (P → Q) → OnOk a Q
on_ok_weaker (Ok x) has goes = goes has
on_ok_weaker (Err e) has goes = tt
