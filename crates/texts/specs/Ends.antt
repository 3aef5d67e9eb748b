-- What is printed of an end.
use Rattle.std.specs.Prelude.{ℕ, List, [], ◌++◌, Bool, true, false, Some, None, codes, decimal, Option}
use Rattle.std.specs.Option.{option_map}
use Rattle.endpoint.specs.declared.outstanding.Outstanding.{Outstanding}
use Rattle.endpoint.specs.Questions.{number_left, numbers_of, has_collision}
use Rattle.law.specs.Ends.{End}
use Rattle.law.specs.declared.kinds.Kind.{Kind}
use Rattle.law.specs.declared.kinds.Kind.TheVariants.{Create, Rekey, Delete, Check}

-- a number that rises, or that it is spent
abbrev pub left_text : Option ℕ → List ℕ
left_text None = codes "spent"
left_text (Some n) = decimal n

-- the outstanding request of an end, and whether it has recorded a collision
abbrev pub collided_text : Bool → List ℕ
collided_text true = codes " collision"
collided_text false = []

abbrev pub outstanding_text : Kind → Outstanding → Bool → List ℕ
outstanding_text Create o c = codes "create id " ++ (decimal o.id ++ (codes " own " ++ decimal o.own))
outstanding_text Rekey o c =
    codes "rekey id " ++ (decimal o.id ++ (codes " own " ++ (decimal o.own ++ (codes " old " ++ (decimal o.old ++ collided_text c)))))
outstanding_text Delete o c = codes "delete id " ++ (decimal o.id ++ (codes " own " ++ decimal o.own))
outstanding_text Check o c = codes "check id " ++ decimal o.id

abbrev pub doing_text : Option Outstanding → Bool → List ℕ
doing_text None c = codes "quiet"
doing_text (Some o) c = outstanding_text o.kind o c

-- the numbers of an end, and its outstanding request
abbrev pub end_text : End → List ℕ
end_text e =
    codes "next " ++ (left_text (number_left e.next) ++ (codes " expected " ++ (left_text (number_left e.expected)
    ++ (codes " spi " ++ (left_text (number_left e.spi)
    ++ (codes " " ++ doing_text (option_map numbers_of e.outstanding) (has_collision e.outstanding)))))))
