-- What a box promises of a call is what the boxed value does.
use Rattle.std.proofs.Common.{refl, subst}
use denote.Param.Object.{Made, read_made}
use denote.Param.Table.{Table}
use denote.Param.Members.{Mut}

pub made_post : {A R C : Type 0} (T : Table (λ X. Mut X A R) C) (at : T.I) {i : T.I} {y : (T.entry i).0.Denot} {x : (T.entry at).0.Denot} → Made (λ j. (T.entry j).0.coded.code) ((T.entry at).0.coded.code) at i y x → (a : A) (r : R) → (T.entry i).1.post y a r → (T.entry at).1.post x a r
made_post T at {i} {y} {x} made a r h = subst (λ (P : Type 0). P) (read_made T (T.entry at) at refl (Type 0) (λ j w. j.1.post w a r) i y x made) h
