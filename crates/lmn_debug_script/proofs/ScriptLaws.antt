-- The laws of scripts.
use Rattle.lmn_debug_script.proofs.Cuts.{none_wrong, one_wrong}
use Rattle.lmn_debug_script.proofs.LineLemmas.{says_may, says_stays}
use Rattle.lmn_debug_script.proofs.OneOrder.{orders_alike}
use Rattle.lmn_debug_script.proofs.SomeOrders.{some_orders}
use Rattle.lmn_debug_script.specs.Laws.{OneIsFirstWrong, OrderedIsNotWrong, OrdersAreOnce, OrdersStay, SomeOrdersOrWrong}

pub orders_are_once : OrdersAreOnce
orders_are_once names text orders others h a b = orders_alike names text orders others h.once a b

pub orders_stay : OrdersStay
orders_stay k names later text orders h a = record { lines = a.lines; apart = a.apart; text_is = a.text_is; say = says_stays k names later h a.say }

pub ordered_is_not_wrong : OrderedIsNotWrong
ordered_is_not_wrong names text orders refusal a w = none_wrong a.lines text refusal a.apart a.text_is (says_may names a.say) w

pub one_is_first_wrong : OneIsFirstWrong
one_is_first_wrong = one_wrong

pub some_orders_or_wrong : SomeOrdersOrWrong
some_orders_or_wrong = some_orders
